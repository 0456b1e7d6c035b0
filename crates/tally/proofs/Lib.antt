pub mod Tallies
pub mod Positions
pub mod Ranks
pub mod Totals
pub mod Sums
