pub mod Chosen
pub mod Refused
pub mod Dumped
