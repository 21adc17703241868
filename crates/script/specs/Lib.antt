pub mod Words
pub mod Lines
pub mod Parsed
pub mod Faults
