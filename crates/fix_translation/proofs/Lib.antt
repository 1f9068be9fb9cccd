pub mod Covering
pub mod MsgTypes
