-- The laws that the functions cite.
mod Adding
