pub mod Events
pub mod TwoParts
