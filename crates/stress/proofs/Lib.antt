pub mod Left
pub mod Levelling
pub mod Marked
pub mod Raw
pub mod Stepping
pub mod Whole
