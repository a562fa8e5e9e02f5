pub mod Reads
pub mod Fields
pub mod Steps
pub mod Plain
pub mod Ordered
pub mod LinesOf
