pub mod Before
pub mod Digits
pub mod Put
pub mod Read
pub mod Sizes
