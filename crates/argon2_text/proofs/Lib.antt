pub mod Letters
pub mod Decimals
pub mod Pieces
pub mod Items
pub mod Writing
