pub mod Rising
mod Turns
mod Worked
pub mod Orders
mod Indexed
pub mod Searched
pub mod Placed
pub mod Given
mod Dropped
mod Rows
pub mod Whole
pub mod After
