mod Ended
mod Reported
