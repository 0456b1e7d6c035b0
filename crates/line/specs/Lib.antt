pub mod Fault
pub mod Waiting
