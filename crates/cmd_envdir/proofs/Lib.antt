pub mod Children
pub mod Quoting
pub mod Puts
pub mod Listing
pub mod Making
