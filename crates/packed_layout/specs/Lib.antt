pub mod Codec
pub mod Faults
pub mod Records
pub mod Layout
pub mod Codes
pub mod Exact
pub mod Sample
