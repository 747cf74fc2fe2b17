pub mod ExplainJob
pub mod Explained
pub mod Topics
pub mod WhyJob
