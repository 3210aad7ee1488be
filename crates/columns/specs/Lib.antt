-- What a view of a column answers.
pub mod Column
