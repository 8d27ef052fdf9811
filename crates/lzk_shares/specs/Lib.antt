pub mod Shares
