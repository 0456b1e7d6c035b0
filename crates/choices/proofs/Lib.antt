pub mod Adding
pub mod Lists
pub mod Numbered
pub mod Ordinals
pub mod Sets
