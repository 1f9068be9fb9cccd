pub mod Mapped
pub mod Tables
