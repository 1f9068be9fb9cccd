pub mod Numerals
pub mod Decimals
pub mod Codes
pub mod Tables
pub mod Values
