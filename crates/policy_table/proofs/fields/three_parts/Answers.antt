use Rattle.std.proofs.Common.{[], ◌∷◌, Some, None, refl, sym, lit<, arith}
use Rattle.std.proofs.lemmas.Iterator.Consumers.{YieldsList-end, YieldsList-turn}
use Rattle.std.proofs.lemmas.Iterator.Splits.{YieldsList-from_str_split}
use Rattle.policy_table.proofs.fields.three_parts.Goals as goal

pub returns-in_err-second : goal.returns-in_err-second
returns-in_err-second c =
    let end = YieldsList-end (YieldsList-from_str_split 58 c.args.word.now (lit< tt) c.split-parts.ensures.text c.split-parts.ensures.has_more c.split-parts.ensures.pattern) (c.in_ok-first.first ∷ []) _ (_, c.in_ok-first.ensures.steps, refl) None _ refl c.in_err-second.ensures.steps in
    rw c.from_residual-in_err-second.ensures (λ three. absurd (omega (arith, end.1, three)))

pub returns-in_err-third : goal.returns-in_err-third
returns-in_err-third c =
    let end = YieldsList-end (YieldsList-from_str_split 58 c.args.word.now (lit< tt) c.split-parts.ensures.text c.split-parts.ensures.has_more c.split-parts.ensures.pattern) (c.in_ok-first.first ∷ c.in_ok-second.second ∷ []) _ (_, c.in_ok-first.ensures.steps, (_, c.in_ok-second.ensures.steps, refl)) None _ refl c.in_err-third.ensures.steps in
    rw c.from_residual-in_err-third.ensures (λ three. absurd (omega (arith, end.1, three)))

pub returns-in-None : goal.returns-in-None
returns-in-None c =
    let end = YieldsList-end (YieldsList-from_str_split 58 c.args.word.now (lit< tt) c.split-parts.ensures.text c.split-parts.ensures.has_more c.split-parts.ensures.pattern) (c.in_ok-first.first ∷ c.in_ok-second.second ∷ c.in_ok-third.third ∷ []) _ (_, c.in_ok-first.ensures.steps, (_, c.in_ok-second.ensures.steps, (_, c.in_ok-third.ensures.steps, refl))) None _ refl c.in-None.ensures.steps in
    sym end.0

pub returns-in-Some : goal.returns-in-Some
returns-in-Some c =
    let turn = YieldsList-turn (YieldsList-from_str_split 58 c.args.word.now (lit< tt) c.split-parts.ensures.text c.split-parts.ensures.has_more c.split-parts.ensures.pattern) (c.in_ok-first.first ∷ c.in_ok-second.second ∷ c.in_ok-third.third ∷ []) _ (_, c.in_ok-first.ensures.steps, (_, c.in_ok-second.ensures.steps, (_, c.in_ok-third.ensures.steps, refl))) (Some c.in-Some.field-0) c.next-4.new.self c.in-Some.field-0 refl c.in-Some.ensures.steps in
    λ three. absurd (omega (arith, turn.0, three))
