pub mod Known
pub mod Served
pub mod Stretches
pub mod Tables
