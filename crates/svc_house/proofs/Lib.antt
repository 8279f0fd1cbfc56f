pub mod Lists
pub mod Extended
pub mod Asking
pub mod Finding
pub mod Publishing
pub mod Halves
pub mod Reading
pub mod Winding
