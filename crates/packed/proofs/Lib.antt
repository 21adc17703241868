pub mod Bytes
pub mod Imports
pub mod RowsRead
pub mod Offsets
pub mod Places
pub mod Reading
