-- What is noted of the places of a part of a text.
pub mod Window
