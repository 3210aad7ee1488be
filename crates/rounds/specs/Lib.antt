-- What Tip5 is: its field on raw words, its rounds and the way back, and the tables of both.
pub mod Constants
pub mod Field
pub mod Inverse
pub mod InverseTables
pub mod Round
pub mod Tables
