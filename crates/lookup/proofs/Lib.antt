-- The laws that the functions cite.
mod Begins
mod Finds
mod Halving
mod KeyOrder
