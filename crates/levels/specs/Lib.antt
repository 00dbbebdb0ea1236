pub mod LevelParts
