-- The laws of this crate's definitions.
pub mod BytewiseBelow
pub mod BytewiseUndone
pub mod CirculantLaws
pub mod ConstantLaws
pub mod DigitLaws
pub mod FieldLaws
pub mod FieldUndone
pub mod LayersUndone
pub mod LookupLaws
pub mod RoundLaws
pub mod RoundTrip
