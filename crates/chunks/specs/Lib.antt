-- What a chunk of a text does to the searches that pass it.
pub mod Passing
pub mod Sums
pub mod PastLaws
pub mod Table
