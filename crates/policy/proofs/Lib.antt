mod Finishing
mod Headers
mod Testing
mod Compiling
mod Weighing
mod Refused
mod Justified
mod Made
