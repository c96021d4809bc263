pub mod Ids
pub mod Allocator
pub mod Told
