pub mod Reading
pub mod Forms
pub mod Attributes
pub mod Elements
pub mod KnownChildren
pub mod Files
