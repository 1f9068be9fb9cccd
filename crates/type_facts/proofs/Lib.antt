pub mod TypePlaces
pub mod WholeLemmas
pub mod Rows
pub mod TableLemmas
pub mod Known
pub mod ReferredLemmas
