pub mod Kept
pub mod Line
pub mod Telling
pub mod Words
pub mod Columns
