pub mod Clean
pub mod Good
pub mod Says
pub mod Whole
pub mod Steps
pub mod Bodies
