pub mod Run
pub mod Scene
pub mod Story
pub mod Laws
pub mod Feed
pub mod Rotate
pub mod Parts
