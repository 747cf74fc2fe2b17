mod Numbers
mod Ends
mod Beginnings
mod Deciding
mod Holding
mod Counting
mod Alone
mod Threads
