pub mod Orders
pub mod Listed
