pub mod Exported
pub mod OwnTable
