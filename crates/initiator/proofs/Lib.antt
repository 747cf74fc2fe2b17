pub mod LoadsTaken
pub mod Made
pub mod MadeRead
pub mod RepliesRead
pub mod RepliesWritten
