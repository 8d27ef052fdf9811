pub mod Assembled
pub mod ChangeLaws
pub mod Drawn
pub mod TableLaws
