pub mod Fused
pub mod Places
pub mod Walk
