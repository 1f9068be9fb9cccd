pub mod TheValues
pub mod Trees
pub mod Decoded
pub mod Shapes
pub mod Fitting
pub mod Rooms
pub mod Sized
pub mod Puts
