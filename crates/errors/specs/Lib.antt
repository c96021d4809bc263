pub mod Errors
pub mod Told
