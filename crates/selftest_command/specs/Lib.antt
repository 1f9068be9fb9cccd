pub mod Selftest
pub mod Tests
