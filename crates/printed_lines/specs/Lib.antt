pub mod Bodies
pub mod ByteConstants
