pub mod Printed
pub mod Filled
pub mod Lines
