pub mod Env
pub mod Files
pub mod Faults
pub mod Title
pub mod Laws
