pub mod Tables
pub mod Leaves
