mod After
mod Decimal
mod Kept
mod Right
mod Table
pub mod Laws
pub mod ShownStep
pub mod What
