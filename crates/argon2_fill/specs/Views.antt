-- How the types and the steps of the code look to contracts. No clause of a root call uses them.
pub mod Boards
