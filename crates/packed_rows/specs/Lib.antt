pub mod Lists
pub mod Opened
pub mod Graphs
pub mod Entries
