-- The laws of this crate's definitions.
pub mod JudgeLaws
pub mod RefusalLaws
pub mod UnlessLaws
