pub mod Carrying
pub mod Gathering
pub mod Passing
pub mod Pieces
pub mod Whole
