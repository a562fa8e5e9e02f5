-- What the search for the brackets of signatures answers, and of which text.
pub mod OneProof
pub mod Signatures
pub mod Text
