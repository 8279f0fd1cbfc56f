pub mod Stamped
pub mod Title
