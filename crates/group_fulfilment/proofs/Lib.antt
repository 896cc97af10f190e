pub mod Fulfilled
