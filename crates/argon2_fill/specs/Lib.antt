pub mod Theorems
pub mod Views
