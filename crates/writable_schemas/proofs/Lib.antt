mod WholeNumbers
mod SetBits
mod OrderedKinds
mod NamedMembers
mod Counters
pub mod CheckedSchemas
