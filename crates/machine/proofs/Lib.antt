mod Agreement
mod Outcomes
mod Results
mod Fitting
mod Filled
mod Leaving
pub mod Asking
mod Reading
mod Front
mod Deciding
