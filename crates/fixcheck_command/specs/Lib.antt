pub mod FixCheck
