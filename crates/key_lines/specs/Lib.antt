pub mod Keys
pub mod Meets
pub mod PlainKeys
pub mod Next
