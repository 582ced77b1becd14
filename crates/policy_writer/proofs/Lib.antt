-- The laws of the writer.
mod Buffer
mod Elements
mod Heads
mod Rows
mod Fronts
mod Lists
mod Files
mod Valid
mod Lent
pub mod Described
pub mod Writing
mod Answered
