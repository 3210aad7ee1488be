-- What a view owes of its parts.
pub mod ViewLaws
pub mod EntryLaws
