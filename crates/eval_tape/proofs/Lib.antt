pub mod Filled
pub mod Powers
pub mod Ranged
pub mod Results
pub mod ShortTapes
