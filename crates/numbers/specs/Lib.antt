-- Definitions on numbers and lists that contracts above cite.
pub mod Circulant
pub mod Congruence
pub mod Fill
pub mod Linear
pub mod Lists
pub mod Modulus
