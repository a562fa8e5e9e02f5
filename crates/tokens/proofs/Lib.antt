-- The laws that the proofs cite, here and in `blanking`.
pub mod Bodies
pub mod Rules
