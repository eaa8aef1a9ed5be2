mod Bodies
mod BodyReads
mod ExpressionForms
mod ExpressionReads
mod Heads
mod ItemReads
mod Limits
mod Lookup
pub mod Mains
mod Operands
mod PartReads
pub mod ReadBack
mod Reading
mod Roomy
pub mod Says
mod Signs
mod SmallItems
mod SmallStatements
mod Spelling
mod StatementForms
mod StatementReads
mod Texts
pub mod Whole
