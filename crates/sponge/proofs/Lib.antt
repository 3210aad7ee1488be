-- The laws of this crate's definitions.
pub mod AcceptedLaws
pub mod BelowLaws
pub mod DigestLaws
pub mod HistoryLaws
pub mod PaddingLaws
pub mod SpongeLaws
pub mod WalkBack
pub mod TensLaws
pub mod RecordLaws
pub mod StartLaws
