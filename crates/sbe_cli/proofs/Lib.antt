pub mod Judging
pub mod Reporting
pub mod Opening
pub mod Draining
pub mod Finishing
pub mod Carrying
pub mod Ending
pub mod Loading
