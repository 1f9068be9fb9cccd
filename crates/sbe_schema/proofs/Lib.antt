pub mod Children
pub mod InForm
pub mod TypesInForm
pub mod SchemaInForm
mod TypeParts
