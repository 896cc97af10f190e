mod Leading
mod Calm
