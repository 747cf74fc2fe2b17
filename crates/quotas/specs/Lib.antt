pub mod MatchesInHistory
pub mod Alone
pub mod Threads
