pub mod Action
pub mod Choices
pub mod Named
pub mod Placed
pub mod Script
pub mod Selection
pub mod Word
