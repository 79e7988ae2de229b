pub mod SketchState
pub mod Touched
