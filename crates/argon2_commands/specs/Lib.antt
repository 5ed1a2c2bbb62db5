pub mod Answer
pub mod Fault
pub mod Run
pub mod Usage
pub mod Words
