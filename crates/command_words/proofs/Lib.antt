pub mod WordLists
pub mod WordNumbers
pub mod WordOptions
pub mod WordLimits
pub mod WordForms
