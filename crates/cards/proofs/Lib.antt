pub mod Entries
pub mod Counted
mod Pairs
