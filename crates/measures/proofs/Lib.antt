-- Laws that the proofs of several functions cite.
mod BodyLaws
mod Cut
mod Walking
mod Words
