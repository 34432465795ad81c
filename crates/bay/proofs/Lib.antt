pub mod Lending
pub mod Refused
pub mod Unique
