use Rattle.policy.proofs.Justified.Tables.{table_justified}
use Rattle.policy.proofs.compiler.code_is_justified.Goals as goal

pub returns : goal.returns
returns c = table_justified (record {
  reflexive = c.order_of_states.ensures.reflexive;
  transitive = c.order_of_states.ensures.transitive;
  shrinks = c.refine_shrinks.ensures;
})
