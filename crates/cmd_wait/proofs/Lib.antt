pub mod Looking
pub mod Lasting
pub mod Found
pub mod Waiting
pub mod Sending
pub mod Saying
