use Rattle.std.proofs.Common.{◌≢◌, [], ℕ, List, length, sym, ap, subst, ◌∙◌}
use Rattle.std.proofs.lemmas.Bool.{eqb-false}
use Rattle.scrub.specs.Mending.{IsProgramUnread}
use Rattle.scrub.specs.declared.made.MendFault.{MendFault}
use Rattle.scrub.proofs.Mending.{unread}
use Rattle.scrub.proofs.made.program_of.Goals as goal

pub returns-in-Err-clause-fault : goal.returns-in-Err-clause-fault
returns-in-Err-clause-fault c =
    let some : c.args.image.now ≢ [] = λ e. eqb-false _ _ (sym c.is_empty.ensures ∙ c.if-is_empty.false) (ap (λ (l : List ℕ). length l) e) in
    subst (λ (fault : MendFault). IsProgramUnread c.args.sizes.now c.args.image.now fault) (sym c.read_fault.ensures)
    (unread c.args.sizes.now c.args.image.now c.in-Err.fault some c.in-Err.ensures.exact)
