pub mod LaneLemmas
pub mod PolynomialLemmas
pub mod RemainderLemmas
pub mod SumLemmas
pub mod Table
