pub mod Imports
pub mod Views
