pub mod Carry
