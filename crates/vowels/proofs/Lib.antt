pub mod Boundaries
pub mod Keys
pub mod VowelSounds
