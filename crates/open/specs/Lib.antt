pub mod Adding
pub mod Files
