pub mod AlteredBytes
pub mod Gathering
pub mod Draws
pub mod Wholes
pub mod TextBytes
pub mod KindParts
pub mod BlockParts
pub mod Computing
