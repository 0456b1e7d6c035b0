pub mod Bits
pub mod BrewSets
pub mod Chosen
pub mod Faults
pub mod Lists
pub mod Order
pub mod Rounds
