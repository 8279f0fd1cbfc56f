pub mod Distinct
pub mod First
pub mod KeepLast
pub mod Text
pub mod Steps
pub mod Faulty
pub mod Values
pub mod Pushes
