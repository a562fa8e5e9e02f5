-- The laws that the functions cite.
pub mod Read
pub mod ShortLaws
pub mod Accepted
