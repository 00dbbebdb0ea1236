pub mod Answering
pub mod Checking
pub mod Computed
pub mod Faults
pub mod Lengths
pub mod StepTable
