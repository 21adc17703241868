mod Spans
mod Tries
mod Hexes
mod Prefixes
mod Names
mod Links
mod Shorter
mod Settings
mod Targets
pub mod Plain
