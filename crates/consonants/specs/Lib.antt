pub mod Following
pub mod Sounds
