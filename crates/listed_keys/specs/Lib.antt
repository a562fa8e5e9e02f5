pub mod KeyLines
pub mod Plain
pub mod Wholes
