pub mod Star
pub mod Pairs
pub mod Laws
