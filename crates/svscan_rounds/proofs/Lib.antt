mod Idle
pub mod Needless
pub mod Ordering
pub mod Outlasting
pub mod Reporting
pub mod Turning
