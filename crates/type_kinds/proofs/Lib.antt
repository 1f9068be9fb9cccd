pub mod Rows
pub mod TableLemmas
pub mod Known
pub mod LeafLemmas
pub mod WidthLemmas
