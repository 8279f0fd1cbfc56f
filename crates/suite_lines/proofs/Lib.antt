pub mod PartTexts
pub mod RowTexts
pub mod EventTexts
mod TextLines
