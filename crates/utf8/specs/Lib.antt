pub mod Awaits
