pub mod Shut
pub mod Unique
