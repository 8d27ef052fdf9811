pub mod LayoutLaws
pub mod Steps
pub mod HashLaws
pub mod HashCircuits
pub mod Filling
pub mod Filled
