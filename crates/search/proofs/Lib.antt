mod Counting
mod Finds
mod Kept
mod Words
