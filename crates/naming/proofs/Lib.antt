pub mod Names
pub mod Namings
