use Rattle.std.proofs.Common.{rules, ◌≡◌, ◌⊎◌, List, ℕ, None, take, ap, ◌∙◌, subst}
use Rattle.node_parts.specs.Loads.{IsUnpreparedBy, WantsToVerify}
use Rattle.node_parts.proofs.Refusals.{unprepared_reported}
use Rattle.node_parts.proofs.loads.prepare.Goals as goal

pub returns-in_err-accepted-clause-refused : goal.returns-in_err-accepted-clause-refused
returns-in_err-accepted-clause-refused c =
    let reported = c.in_err-accepted.field-0.0 in
    let bytes : take c.from.result c.bytes.result.now ≡ take c.args.control.length c.args.staging.now.bytes =
    ap (λ (n : ℕ). take n c.bytes.result.now) c.from.ensures ∙ ap (λ (xs : List ℕ). take c.args.control.length xs) c.bytes.ensures.value in
    unprepared_reported c.args.control c.args.staging.now.bytes c.args.maps.now reported _ c.from_residual.ensures.1 (search rules)
    (subst (λ (xs : List ℕ). IsUnpreparedBy None xs c.args.maps.now reported ⊎ WantsToVerify xs reported) bytes c.in_err-accepted.ensures.refused)
