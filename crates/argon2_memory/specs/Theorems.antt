-- Theorems about the definitions, stated in the contracts of calls without arguments.
pub mod Schedule
pub mod AnyOrder
