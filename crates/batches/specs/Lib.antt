pub mod Behind
pub mod Gathered
