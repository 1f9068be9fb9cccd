pub mod Typing
pub mod Whole
pub mod TagLists
pub mod Lawful
pub mod MessageTables
