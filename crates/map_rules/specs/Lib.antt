pub mod Standing
pub mod Verdicts
pub mod Datatypes
pub mod Rules
pub mod Questions
