pub mod Forms
pub mod Types
pub mod TypeParts
pub mod Messages
pub mod Schemas
