pub mod Putting
pub mod Parts
pub mod Beside
pub mod Edited
pub mod Bounds
