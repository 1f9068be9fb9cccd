pub mod Judging
pub mod PairFields
