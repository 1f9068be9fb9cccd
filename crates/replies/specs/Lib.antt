pub mod Reply
pub mod Outside
pub mod Drafts
