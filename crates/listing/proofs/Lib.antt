pub mod Laying
pub mod Waiting
pub mod Counting
