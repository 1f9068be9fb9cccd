pub mod RawReplies
pub mod Stands
