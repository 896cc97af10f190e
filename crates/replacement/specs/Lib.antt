pub mod Repl
