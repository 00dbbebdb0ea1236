pub mod VowelSounds
