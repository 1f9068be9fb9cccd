pub mod Digits
pub mod Calendar
pub mod Reading
pub mod Days
pub mod Clocks
pub mod Stamps
pub mod Months
pub mod Rows
