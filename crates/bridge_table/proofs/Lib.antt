pub mod NamedTexts
pub mod TextsApart
pub mod Truths
pub mod Bytes
