-- Groups of angle brackets that are open.
pub mod Angles
pub mod Groups
