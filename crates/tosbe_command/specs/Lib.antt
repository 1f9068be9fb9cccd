pub mod Bridges
pub mod Bodies
pub mod ToSbe
pub mod Unsent
