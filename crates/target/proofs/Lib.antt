pub mod Askings
pub mod Loadings
pub mod Judgements
pub mod Fresh
pub mod Finishing
pub mod Lining
pub mod Setting
