pub mod ShapeLemmas
pub mod LinkLemmas
pub mod ListLemmas
pub mod DistanceLemmas
mod ShapeExamples
