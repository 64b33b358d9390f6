-- Laws of the weights of jobs.
pub mod TableWeights
