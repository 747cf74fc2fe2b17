mod Cutting
mod Found
mod Refused
mod Written
