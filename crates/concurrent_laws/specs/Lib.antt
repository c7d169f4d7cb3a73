pub mod Concurrent
