pub mod Counted
pub mod Finding
pub mod Fronts
pub mod Fitting
pub mod Ruling
