-- What the wrappers hand out, read as the answers of the calls that they wrap.
pub mod Answers
