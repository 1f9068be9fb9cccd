-- Definitions that only inner clauses cite.
pub mod Grown
