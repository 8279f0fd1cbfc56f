pub mod Ends
pub mod History
pub mod Kept
pub mod Whole
