pub mod Spaces
pub mod Generations
pub mod Moments
pub mod Own
