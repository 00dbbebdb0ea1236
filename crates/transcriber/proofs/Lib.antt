pub mod Fused
pub mod Tail
pub mod Walking
pub mod Promised
