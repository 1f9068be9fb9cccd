pub mod Fronts
pub mod Wiring
pub mod Grouped
