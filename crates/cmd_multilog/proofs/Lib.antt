pub mod Naming
pub mod Folders
pub mod Shelves
pub mod Openings
pub mod Ordered
pub mod Rises
pub mod Stopping
