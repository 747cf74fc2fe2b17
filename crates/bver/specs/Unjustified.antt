-- What a refusal means: the definition of `bver_pass`.
pub use Rattle.bver_pass.specs.Unjustified.{
  ReportsUnjustified,
}
