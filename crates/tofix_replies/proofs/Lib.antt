pub mod Delivering
pub mod Framing
pub mod Near
pub mod Noting
pub mod Replied
