pub mod Cut
pub mod Lines
