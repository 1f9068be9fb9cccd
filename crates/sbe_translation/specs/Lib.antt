pub mod Numbered
pub mod Plans
pub mod Translations
