pub mod Commands
pub mod Pages
pub mod Ends
