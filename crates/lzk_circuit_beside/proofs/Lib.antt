pub mod AssertLaws
pub mod CheckLaws
pub mod JoinLaws
pub mod LayerLaws
pub mod LevelLaws
pub mod MultipleLaws
pub mod PlaceLaws
pub mod RowLaws
