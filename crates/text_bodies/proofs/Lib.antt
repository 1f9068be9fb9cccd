pub mod Judged
pub mod FewFields
