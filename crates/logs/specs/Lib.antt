-- What the call that replays a log answers.
pub mod LogCalls
