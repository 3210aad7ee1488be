-- The laws of this crate's definitions.
pub mod RoundTrip
pub mod Undone
pub mod WordLaws
pub mod ExportLaws
