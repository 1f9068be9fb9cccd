pub mod Leading
pub mod ValueWays
pub mod ShapeWays
pub mod Ways
pub mod Wanted
