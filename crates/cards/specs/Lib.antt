pub mod Readings
pub mod Steps
pub mod Worked
pub mod Orders
pub mod Faults
