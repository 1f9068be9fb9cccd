pub mod GroupRows
pub mod LevelRows
pub mod FormLemmas
pub mod ReachLemmas
pub mod WholeSchema
