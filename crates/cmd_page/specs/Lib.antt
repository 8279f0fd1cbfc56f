pub mod Ends
pub mod Escape
pub mod Page
pub mod PageEnds
pub mod Picture
