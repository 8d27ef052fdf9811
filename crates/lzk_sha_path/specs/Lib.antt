pub mod Causes
pub mod Climbs
pub mod Levels
pub mod Roots
pub mod Trees
