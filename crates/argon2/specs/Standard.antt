-- What the calls within limits return, and what the `_in` calls leave in the memory that they are given.
pub mod Leaves
pub mod Limits
