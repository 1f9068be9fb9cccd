pub mod Templates
