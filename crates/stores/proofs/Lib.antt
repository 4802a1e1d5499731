pub mod Heads
pub mod Lines
pub mod Answers
pub mod Cases
pub mod Printing
