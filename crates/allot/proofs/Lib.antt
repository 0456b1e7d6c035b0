pub mod Facts
pub mod Moving
