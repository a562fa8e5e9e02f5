-- What the search's cursor stands for, what its steps answer, and how one step follows from the rules.
pub mod State
pub mod Bytes
pub mod Cursors
pub mod View
pub mod Steps
