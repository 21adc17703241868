pub mod Celled
pub mod Cleared
