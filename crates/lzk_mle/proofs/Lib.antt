pub mod CornerLaws
pub mod LoopStates
pub mod TableLaws
