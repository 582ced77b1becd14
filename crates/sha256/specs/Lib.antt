pub mod Message
pub mod State
