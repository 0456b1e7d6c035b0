pub mod Running
pub mod Rankings
