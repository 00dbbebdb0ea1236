pub mod Told
pub mod TurnedAway
pub mod Promised
