-- What is noted of the brackets of a part, and how one pass tells it.
pub mod Told
pub mod Filling
