pub mod AsRead
pub mod Listed
pub mod NamesBack
pub mod TextsBack
pub mod ValuesBack
pub mod LinesBack
pub mod Rows
