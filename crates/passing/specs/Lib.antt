-- What is said of bytes that are passed.
pub mod Passing
