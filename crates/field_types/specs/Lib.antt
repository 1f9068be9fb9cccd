pub mod FieldTypes
pub mod Rows
