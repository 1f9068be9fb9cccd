pub mod NumeralLemmas
pub mod LeafLemmas
pub mod CodeLemmas
pub mod TableLemmas
pub mod DecimalLemmas
