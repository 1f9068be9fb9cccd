pub mod ItemsOn
pub mod IsRawReading
