pub mod Library
pub mod Runs
