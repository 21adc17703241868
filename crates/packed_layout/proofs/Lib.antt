pub mod Codecs
pub mod Framing
mod Refusals
pub mod Packing
pub mod Exact
mod Sample
