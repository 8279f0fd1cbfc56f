pub mod Commands
pub mod Programs
pub mod Words
