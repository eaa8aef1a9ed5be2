pub mod ExprComplete
pub mod ExprOnward
pub mod ExprReading
pub mod ExprRuns
pub mod ExprSound
pub mod Follow
pub mod Operators
pub mod Windows
mod Quoted
pub mod WordNames
