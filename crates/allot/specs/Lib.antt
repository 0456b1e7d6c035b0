pub mod Prepared
pub mod OpenMarkets
pub mod Runs
pub mod Best
