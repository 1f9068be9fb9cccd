-- Definitions that only inner clauses cite.
pub mod Heads
pub mod Places
pub mod Values
pub mod Zeros
