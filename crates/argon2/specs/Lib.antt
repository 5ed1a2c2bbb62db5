pub mod Standard
pub mod Views
pub mod Theorems
