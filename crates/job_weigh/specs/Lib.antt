pub mod Times
pub mod WeighJob
pub mod Weighed
