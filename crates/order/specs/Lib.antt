pub mod Best
pub mod Picks
pub mod Chosen
pub mod Tournament
