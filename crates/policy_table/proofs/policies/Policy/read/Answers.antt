use Rattle.std.specs.Prelude.{All}
use Rattle.std.proofs.Common.{List, sym, subst}
use Rattle.std.proofs.lemmas.List.Elements.{All-nil}
use Rattle.std.proofs.lemmas.Result.{err_from_is_err_and}
use Rattle.policy_table.specs.PartialTables.{empty_partial_table}
use Rattle.policy_table.specs.Ports.{FitsPort}
use Rattle.policy_table.specs.declared.port_rules.PortRule.{PortRule}
use Rattle.policy_table.proofs.PortsFit.{partial_table_fits}
use Rattle.policy_table.proofs.ReadingSo.{unread_so, written_so}
use Rattle.policy_table.proofs.policies.Policy.read.Goals as goal

pub invariant_of-result : goal.invariant_of-result
invariant_of-result c =
    subst (λ (rules : List PortRule). All FitsPort rules) (sym c.into_rules-reversed.ensures.rules) (partial_table_fits _ _ _ empty_partial_table _ c.in_ok-partial_table.ensures.read (All-nil FitsPort))

pub returns-clause-read : goal.returns-clause-read
returns-clause-read c = written_so _ _ _ _ _ _ _ c.policy_reading_of-version.ensures.how c.in_ok-partial_table.ensures.read c.into_rules-reversed.ensures.reversed c.into_rules-reversed.ensures.rules

pub returns-in_err-partial_table-clause-fault : goal.returns-in_err-partial_table-clause-fault
returns-in_err-partial_table-clause-fault c =
    let gone = err_from_is_err_and c.from_residual.result c.from_residual.ensures.1 in
    rw (gone.1, gone.2) (unread_so _ _ _ _ _ c.policy_reading_of-version.ensures.how c.in_err-partial_table.ensures.fault)
