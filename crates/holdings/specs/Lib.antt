pub mod Maps
pub mod Stores
pub mod Spots
pub mod Answers
pub mod Puts
