pub mod Queues
pub mod InStep
pub mod Numbers
