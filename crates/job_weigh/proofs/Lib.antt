pub mod TimeLists
pub mod Lines
