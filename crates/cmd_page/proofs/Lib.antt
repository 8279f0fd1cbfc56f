pub mod Grown
pub mod Written
