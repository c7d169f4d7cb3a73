mod Giving
mod One
