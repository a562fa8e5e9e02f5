pub mod Short
pub mod Shown
pub mod Stands
