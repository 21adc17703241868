pub mod Paired
pub mod Order
pub mod Searched
