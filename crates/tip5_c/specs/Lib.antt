-- What the exports answer.
pub mod Bytes
pub mod Export
