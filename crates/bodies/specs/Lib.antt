-- What is noted of searches for a body.
pub mod Bodies
pub mod Chain
pub mod Crossing
pub mod Numbers
pub mod Quiet
pub mod Settling
pub mod Walking
