mod Behind
mod Turns
mod Words
