pub mod Counting
pub mod Gains
pub mod Ordered
pub mod Rivals
pub mod Offering
pub mod EnvyCounts
pub mod Telling
