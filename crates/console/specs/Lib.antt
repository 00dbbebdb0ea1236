pub mod Complaints
pub mod Putting
pub mod Reading
