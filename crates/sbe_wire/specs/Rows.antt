pub mod Schemas
pub mod Bodies
