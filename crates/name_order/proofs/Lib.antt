pub mod ByteOrder
pub mod Bytewise
pub mod Splitting
pub mod Inserting
pub mod Numbering
pub mod Arranging
pub mod Placing
pub mod Halving
