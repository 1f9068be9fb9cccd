pub mod Backs
pub mod Forms
