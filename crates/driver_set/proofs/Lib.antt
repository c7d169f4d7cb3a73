pub mod QueueSteps
pub mod NumberSteps
