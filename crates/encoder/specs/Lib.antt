pub mod Laid
pub mod Encoding
