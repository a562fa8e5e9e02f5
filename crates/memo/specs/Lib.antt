-- What is kept of searches for a body.
pub mod Memo
pub mod Moving
