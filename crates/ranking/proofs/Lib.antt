-- The laws that the functions cite.
mod Ahead
pub mod Turns
