-- The laws of this crate's definitions.
pub mod HalvesLaws
pub mod MendedLaws
pub mod PowersLaws
pub mod ReducedLaws
pub mod RowLaws
pub mod SboxLaws
pub mod TableLaws
pub mod ValueLaws
