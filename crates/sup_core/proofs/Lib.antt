pub mod Laws
pub mod Fields
pub mod Spelling
pub mod Lines
pub mod Records
pub mod Counts
pub mod Standing
pub mod Plain
