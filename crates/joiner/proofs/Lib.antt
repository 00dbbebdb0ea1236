pub mod Answering
pub mod Laying
pub mod Looking
pub mod Sides
