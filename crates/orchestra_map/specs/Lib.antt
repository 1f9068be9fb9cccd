pub mod Mappings
pub mod DataFields
pub mod Headers
pub mod Structures
