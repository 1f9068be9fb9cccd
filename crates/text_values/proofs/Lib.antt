pub mod Dates
pub mod RowReads
pub mod FarDecimals
pub mod GivenTexts
pub mod SetBits
pub mod Counting
