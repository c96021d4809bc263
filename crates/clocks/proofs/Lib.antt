pub mod Rearming
