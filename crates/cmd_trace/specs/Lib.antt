pub mod Local
pub mod Traced
