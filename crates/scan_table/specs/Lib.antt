pub mod Slots
pub mod Scan
pub mod Table
pub mod Whole
pub mod Turns
pub mod Index
pub mod Order
pub mod Named
