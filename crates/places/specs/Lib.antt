pub mod Places
pub mod Marking
