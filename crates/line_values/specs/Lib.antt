pub mod Refusals
pub mod Objects
pub mod Values
pub mod Keys
pub mod Code
pub mod Ordered
