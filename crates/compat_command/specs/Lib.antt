pub mod Compat
