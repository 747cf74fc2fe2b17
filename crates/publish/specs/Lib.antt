pub mod Reached
pub mod Tables
pub mod PublishedViews
pub mod Lines
pub mod Firsts
