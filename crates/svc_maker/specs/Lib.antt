pub mod Admission
pub mod Calls
pub mod Descriptors
pub mod Pipes
pub mod Making
pub mod Parts
