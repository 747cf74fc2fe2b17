pub mod Happenings
pub mod Alone
pub mod Together
pub mod Once
pub mod Sample
