pub mod CursorTold
pub mod MachineTold
