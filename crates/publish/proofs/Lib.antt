pub mod Fronts
pub mod Shelves
pub mod Families
pub mod Firsts
