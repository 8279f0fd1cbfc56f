pub mod Columns
pub mod Lasts
pub mod Own
pub mod Stretches
