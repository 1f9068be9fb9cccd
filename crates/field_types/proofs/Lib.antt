pub mod ShortCodes
