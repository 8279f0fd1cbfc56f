pub mod Stars
pub mod Adjacent
pub mod First
pub mod Computed
pub mod Ends
pub mod Cuts
pub mod Words
pub mod HasPairs
