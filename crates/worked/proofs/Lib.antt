-- The claim about the marked cases.
pub mod Claim
