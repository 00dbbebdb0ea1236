pub mod Punctuation
pub mod Walking
