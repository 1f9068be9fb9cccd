pub mod KnownMembers
