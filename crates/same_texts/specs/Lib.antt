pub mod Same
pub mod Follow
