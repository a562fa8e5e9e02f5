pub mod Weights
pub mod Files
pub mod OneProof
pub mod Tops
