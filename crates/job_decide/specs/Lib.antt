pub mod Tables
pub mod DecideJob
pub mod Decided
pub mod DecidedLines
pub mod DecidedFile
