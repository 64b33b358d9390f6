-- Jobs that wait on a stack.
pub mod Stacks
