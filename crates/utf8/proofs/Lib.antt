pub mod Answering
pub mod Computed
pub mod Sequences
pub mod Walking
