pub mod Faults
pub mod Projects
pub mod Rescan
pub mod Laws
