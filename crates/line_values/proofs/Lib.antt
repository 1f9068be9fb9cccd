pub mod NameSteps
pub mod ListSteps
pub mod ItemSteps
pub mod ChoiceSteps
pub mod Opening
pub mod HexKeys
pub mod KeyOrder
pub mod Unknown
