pub mod Types
pub mod Requests
