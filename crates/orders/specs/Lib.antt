pub mod Refusals
pub mod Books
pub mod Rows
pub mod Tables
pub mod Kept
