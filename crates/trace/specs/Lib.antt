pub mod Types
pub mod Beginning
pub mod Parts
