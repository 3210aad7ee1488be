-- The statements, by what they are about.
pub mod Element
pub mod InPlace
pub mod InPlaceClauses
pub mod Judging
pub mod Permutation
pub mod Rows
pub mod Same
pub mod Sheet
pub mod Sponge
pub mod Words
