pub mod ReadBack
pub mod Fractions
pub mod DecimalsBack
pub mod Reduced
pub mod SetsBack
pub mod WholeBack
pub mod Spelled
pub mod Enough
