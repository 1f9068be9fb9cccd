pub mod Composites
pub mod Elements
pub mod MemberBytes
