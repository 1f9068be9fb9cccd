pub mod Numbering
pub mod Planning
pub mod Translating
