pub mod LevelParts
pub mod Signed
pub mod Spoken
