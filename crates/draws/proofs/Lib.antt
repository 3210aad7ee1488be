-- The laws of this crate's definitions.
pub mod AllowanceLaws
pub mod AnswerLaws
pub mod BelowBound
pub mod BoundLaws
pub mod DrawLaws
pub mod DrawingLaws
pub mod FilledLaws
pub mod IndexLaws
pub mod ReportLaws
pub mod SourceLaws
pub mod SqueezeLaws
pub mod WalkBack
