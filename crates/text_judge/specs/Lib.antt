pub mod Judges
pub mod OwnPairs
