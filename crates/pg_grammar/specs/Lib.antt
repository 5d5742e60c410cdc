pub mod Levels
pub mod Patterns
pub mod Rules
