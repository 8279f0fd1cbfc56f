pub mod Commands
pub mod Pages
pub mod Console
pub mod Usage
pub mod Known
pub mod Paths
pub mod Printed
pub mod Times
