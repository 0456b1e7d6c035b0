pub mod Blank
pub mod Written
