-- The laws that the functions cite.
mod Inserting
