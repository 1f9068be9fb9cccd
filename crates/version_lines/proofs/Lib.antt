pub mod OneAnswer
pub mod Computing
