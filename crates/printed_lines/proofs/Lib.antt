pub mod BodyBytes
pub mod ByteRows
pub mod OwnBodies
