pub mod Overlays
pub mod Entering
pub mod Listing
pub mod Standing
pub mod Judging
mod Asking
mod Passing
