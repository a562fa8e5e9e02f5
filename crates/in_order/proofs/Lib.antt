-- The laws that the functions cite.
mod Following
mod PassedLines
mod Measuring
