pub mod Held
pub mod Places
pub mod Replied
pub mod Told
pub mod Loaded
pub mod TextBodies
