-- When a program may judge: the definitions of `bver_pass`.
pub use Rattle.bver_pass.specs.Justified.{
  AcceptedValue,
  AreEdgesCovered,
  IsCovered,
  IsCoveredIfAny,
  IsHead,
  IsJudged,
  IsJustified,
  IsPermitted,
  IsPermittedAt,
  IsResultCovered,
  edges_of_comparison,
  knowledge_at,
}
