pub mod Limits
pub mod Placing
pub mod Standing
