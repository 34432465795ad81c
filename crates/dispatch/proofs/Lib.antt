pub mod Wall
pub mod Seeking
