pub mod Shown
pub mod FromBytes
pub mod MembersShown
pub mod Fronts
pub mod Valid
pub mod CodeTexts
pub mod RowsText
