pub mod Fills
pub mod Entries
