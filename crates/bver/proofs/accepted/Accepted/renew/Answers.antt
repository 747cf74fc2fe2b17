use Rattle.bver.proofs.accepted.Accepted.renew.Goals as goal

pub renew_operations-requires-clause-formed : goal.renew_operations-requires-clause-formed
renew_operations-requires-clause-formed c = c.self.invariant.judged.justified.formed

pub invariant_of-self : goal.invariant_of-self
invariant_of-self c = record {
  judged = c.self.invariant.judged;
  listed = c.renew_operations.ensures.listed;
  followed = c.renew_operations.ensures.followed;
}
