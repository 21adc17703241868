pub mod Parts
pub mod Adding
pub mod Growth
pub mod Totals
pub mod Putting
pub mod Merging
pub mod Room
pub mod Renewing
