-- What is refused, and which refusal comes first.
pub mod Judge
pub mod Number
