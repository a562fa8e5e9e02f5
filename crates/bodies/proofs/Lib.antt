-- Laws of the levels between which searches are pending, and of brackets that are counted.
pub mod Levels
pub mod Counting
pub mod Marks
