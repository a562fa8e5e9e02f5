pub mod Insert
pub mod KeyList
pub mod Held
pub mod Seen
