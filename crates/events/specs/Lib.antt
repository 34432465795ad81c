pub mod Types
pub mod Fields
pub mod Events
