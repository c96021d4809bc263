pub mod Arms
pub mod Back
