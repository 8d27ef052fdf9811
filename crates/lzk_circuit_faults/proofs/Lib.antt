mod Varints
mod Runs
mod Ties
mod Places
mod FirstFaults
mod Circuits
