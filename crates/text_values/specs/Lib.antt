pub mod Instants
pub mod Made
pub mod Read
pub mod Rows
pub mod Sets
