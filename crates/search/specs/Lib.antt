-- A place as the code tells it, what is known of braces, and the laws of searches that find nothing.
pub mod EndLaws
pub mod Open
pub mod Passing
pub mod Place
