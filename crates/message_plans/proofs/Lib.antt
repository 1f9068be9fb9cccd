pub mod Covering
pub mod Kinded
