pub mod Changes
pub mod Sizes
pub mod Taking
pub mod Ranks
pub mod Putting
pub mod Emptying
