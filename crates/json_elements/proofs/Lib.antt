pub mod Pointers
pub mod Children
pub mod Lone
pub mod Trees
pub mod Values
pub mod Wholes
pub mod Yields
