-- Theorems about the definitions, stated in the contracts of calls without arguments.
pub mod KnownAnswers
