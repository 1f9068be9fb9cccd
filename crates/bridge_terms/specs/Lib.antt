pub mod Plans
pub mod PlanFacts
pub mod Parts
pub mod Gathering
pub mod MessageFields
pub mod Places
pub mod WayBack
pub mod Blocks
