mod Fields
mod Worded
mod ToldStep
