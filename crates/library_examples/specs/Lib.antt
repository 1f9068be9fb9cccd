pub mod Schemas
pub mod Sums
pub mod Orders
pub mod Lines
pub mod Bodies
pub mod Prices
