pub mod PathParts
pub mod PathSteps
