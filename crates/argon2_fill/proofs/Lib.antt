pub mod Passes
pub mod CallerBlocks
pub mod Boards
