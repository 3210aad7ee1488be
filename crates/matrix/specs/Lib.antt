-- The matrix of the permutation, and those of the parts that its product is made of.
pub mod Column
pub mod Parts
