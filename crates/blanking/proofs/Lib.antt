-- The laws that the proofs cite.
mod Plain
mod Whole
