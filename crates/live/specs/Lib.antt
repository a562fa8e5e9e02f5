pub mod PathOrder
pub mod Live
pub mod Ranges
