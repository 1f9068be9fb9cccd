pub mod Counted
pub mod Empty
pub mod Held
pub mod Lending
pub mod Ready
pub mod States
pub mod Steps
