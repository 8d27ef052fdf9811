pub mod Wasteful
