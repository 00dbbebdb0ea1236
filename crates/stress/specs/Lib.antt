pub mod Places
pub mod Levels
pub mod Before
