pub mod Trees
pub mod Schemas
