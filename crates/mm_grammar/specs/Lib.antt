pub mod Meaning
pub mod Nesting
pub mod ProgramGrammar
pub mod StatementGrammar
pub mod reading
