mod Nearing
mod Spent
