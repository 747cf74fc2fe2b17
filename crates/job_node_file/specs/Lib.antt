pub mod Headers
pub mod Images
pub mod NodeFileJob
pub mod Pools
pub mod Printed
pub mod Quotas
