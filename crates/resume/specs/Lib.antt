pub mod EndResult
pub mod Places
pub mod Verdict
pub mod Handing
