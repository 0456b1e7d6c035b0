pub mod Markets
pub mod Choices
pub mod Allotments
pub mod Acceptance
pub mod Settlement
pub mod Proposals
pub mod FromBooks
