pub mod Rb
