pub mod Markets
pub mod Missing
pub mod Compared
pub mod Lots
pub mod Envying
pub mod EnvyList
