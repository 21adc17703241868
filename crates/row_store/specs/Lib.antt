pub mod Filled
pub mod Cuts
pub mod Sides
pub mod Views
pub mod Heads
pub mod Renewed
pub mod Stores
