mod Choosing
mod Faults
pub mod Limits
mod Maps
mod Numbers
mod Placed
mod Plans
pub mod Texts
