pub mod Json
pub mod Laws
pub mod Ends
pub mod Metrics
pub mod Finds
pub mod JsonEnds
pub mod MetricsEnds
pub mod Label
