pub mod Names
pub mod Folder
pub mod Shelf
pub mod Sayings
pub mod Opening
pub mod Ends
pub mod Stop
pub mod Rising
