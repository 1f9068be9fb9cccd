pub mod Again
pub mod Keys
pub mod Ends
pub mod Lying
pub mod Asked
pub mod Gathering
