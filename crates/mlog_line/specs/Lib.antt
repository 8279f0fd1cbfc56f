pub mod Given
pub mod Outputs
pub mod Several
pub mod LineRouter
pub mod Reach
