pub mod Packs
pub mod Put
