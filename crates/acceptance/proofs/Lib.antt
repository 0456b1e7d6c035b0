pub mod Lines
pub mod Steps
pub mod Ranking
pub mod Nexts
