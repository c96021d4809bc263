pub mod Places
pub mod Between
pub mod Rules
pub mod Loops
pub mod Keeps
pub mod Outcomes
pub mod Parts
pub mod EndResult
