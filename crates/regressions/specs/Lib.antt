pub mod Worse
