pub mod DimRows
pub mod Pairs
pub mod DimPuts
