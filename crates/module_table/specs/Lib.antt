pub mod Names
pub mod Drafts
pub mod Judged
