pub mod Fitting
pub mod Elements
pub mod Places
