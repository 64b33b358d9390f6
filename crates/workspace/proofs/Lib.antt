-- Laws of the workspace.
pub mod UsablePart
pub mod WithSpace
