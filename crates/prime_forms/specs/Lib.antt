-- What the calls that write prime forms answer.
pub mod FormCalls
