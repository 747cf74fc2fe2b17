pub mod Judging
pub mod Lasts
pub mod Later
pub mod Shelves
