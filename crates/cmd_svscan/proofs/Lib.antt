pub mod Asked
pub mod InTurn
pub mod Leftovers
pub mod ListedNames
pub mod Naming
pub mod Opening
