pub mod Coded
pub mod Computing
pub mod Growing
pub mod Hex
pub mod Listed
pub mod PieceValues
