pub mod Ranks
pub mod Taking
