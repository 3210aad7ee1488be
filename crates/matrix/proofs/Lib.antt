-- The laws of the matrix: how large its row sums are, for the crates above, and what the functions' proofs share.
pub mod Small
mod Wrapping
