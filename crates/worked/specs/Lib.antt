-- The marked cases.
pub mod Cases
