pub mod Equations
mod EquationsItems
mod EquationsLayers
mod EquationsNames
mod EquationsStatements
mod EquationsSteps
mod EquationsValues
