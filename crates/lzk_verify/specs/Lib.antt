pub mod Checks
pub mod Columns
pub mod Desk
pub mod Extending
pub mod Kept
pub mod Leaves
pub mod Verdict
