pub mod Standard
pub mod Theorems
pub mod Views
