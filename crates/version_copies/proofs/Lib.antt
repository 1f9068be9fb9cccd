pub mod Untouched
pub mod LevelParts
pub mod Copying
