pub mod Misfits
pub mod Members
