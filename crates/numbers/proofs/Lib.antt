-- The laws of numbers.
pub mod Circulant
pub mod Congruence
pub mod Divisors
pub mod Fill
pub mod Generator
pub mod Linear
pub mod Lists
pub mod Montgomery
pub mod Pigeonhole
pub mod Power
pub mod Roots
pub mod Table
pub mod Tests
pub mod Trial
