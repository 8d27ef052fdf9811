pub mod Hashes
mod Zips
mod Explaining
