pub mod Ways
pub mod Each
pub mod Fillings
pub mod Regrades
