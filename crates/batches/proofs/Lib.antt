-- The laws that the functions cite.
mod Deciding
mod Lines
mod Taking
mod Writing
