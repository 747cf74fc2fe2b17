pub mod Folders
pub mod Sheets
