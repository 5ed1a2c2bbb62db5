-- The definitions by which clauses of the root calls describe a kept memory, in reading order.
pub mod Kept
