pub mod Regrade
pub mod Regrades
pub mod Pairs
