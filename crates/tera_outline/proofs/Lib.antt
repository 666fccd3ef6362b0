mod CallSteps
mod EditSteps
mod Finding
mod HeadCuts
mod HeadSteps
mod NameParts
mod NamePlaces
mod Nesting
mod OutlineSteps
mod Outlines
mod PieceSteps
mod Readings
mod Rising
pub mod SemanticLemmas
mod Sides
mod Starts
mod Stopping
