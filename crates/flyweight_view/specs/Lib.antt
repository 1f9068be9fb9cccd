pub mod TypedBlocks
pub mod ShownIn
pub mod ByTable
pub mod Deep
pub mod inner
