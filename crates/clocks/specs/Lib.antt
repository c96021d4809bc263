pub mod Specs
pub mod Rearming
pub mod Timers
pub mod Told
