pub mod Counting
pub mod Opening
pub mod Records
pub mod Coming
