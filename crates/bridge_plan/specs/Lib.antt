pub mod Mappings
pub mod Covers
pub mod StructureFacts
pub mod CheckedLevels
pub mod Translation
pub mod Rows
pub mod CaseRows
