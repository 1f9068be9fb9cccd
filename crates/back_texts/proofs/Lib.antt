pub mod Passing
pub mod Texts
pub mod Following
pub mod Written
pub mod Forms
