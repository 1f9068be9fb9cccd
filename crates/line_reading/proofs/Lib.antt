pub mod LevelSteps
pub mod ListSteps
pub mod ItemSteps
pub mod Opening
pub mod Wholes
