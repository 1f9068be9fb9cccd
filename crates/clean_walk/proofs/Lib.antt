pub mod AllZeros
pub mod Gaps
pub mod Rows
pub mod Saying
pub mod Parts
pub mod Entries
pub mod Words
pub mod ZeroBits
