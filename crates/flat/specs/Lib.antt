-- What a search for a body counts and meets, and its laws past a byte and past many.
pub mod BlockLaws
pub mod Body
pub mod BodyLaws
pub mod FlatLaws
pub mod LevelLaws
