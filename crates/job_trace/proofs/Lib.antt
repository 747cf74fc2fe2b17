mod Histories
mod LinesInTurn
mod Scheduled
mod Striding
