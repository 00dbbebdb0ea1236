pub mod Inputs
pub mod Kept
pub mod Room
pub mod Texts
