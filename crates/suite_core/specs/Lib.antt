pub mod Parts
pub mod Suite
pub mod Run
pub mod Places
pub mod Named
