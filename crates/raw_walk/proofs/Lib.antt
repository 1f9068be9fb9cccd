pub mod Alls
pub mod Plain
pub mod Remembered
pub mod Passing
pub mod Judged
