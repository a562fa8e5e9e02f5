pub mod Known
pub mod Sums
pub mod Table
