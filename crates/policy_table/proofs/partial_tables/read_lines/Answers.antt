use Rattle.std.proofs.Common.{◌≡◌, ◌+◌, ◌∷◌, List, ℕ, suc, length, sym, ap, subst, arith, inr, add-one}
use Rattle.policy_table.specs.PartialTables.{HasBadLine, LinesWrite, TakesLine}
use Rattle.policy_table.specs.declared.versions.TableVersion.{TableVersion}
use Rattle.policy_table.proofs.partial_tables.read_lines.Goals as goal

pub loop-text-preserved : goal.loop-text-preserved
loop-text-preserved c =
    let v : TableVersion = c.args.version in
    let text : List ℕ = c.in-Some.text.now in
    let next : c.loop-text.text-iterator ≡ text ∷ c.next.new.self = c.in-Some.ensures.steps in
    let one : c.loop-text.line + 1 ≡ suc c.loop-text.line = add-one c.loop-text.line in
    let taken : TakesLine v (suc c.loop-text.line) text c.loop-text.partial_table c.take.new.self = subst (λ (k : ℕ). TakesLine v k text c.loop-text.partial_table c.take.new.self) one c.in_ok-take.ensures.taken in
    let (count, writes, bad) = c.loop-text.invariant in (
      omega (arith, count, ap (λ (lines : List (List ℕ)). length lines) next),
      λ end rest.
          writes end (subst (λ (lines : List (List ℕ)). LinesWrite v (suc c.loop-text.line) lines c.loop-text.partial_table end) (sym next)
          (c.take.new.self, taken, subst (λ (k : ℕ). LinesWrite v (suc k) c.next.new.self c.take.new.self end) one rest)),
      λ fault rest.
          bad fault (subst (λ (lines : List (List ℕ)). HasBadLine v (suc c.loop-text.line) lines c.loop-text.partial_table fault) (sym next)
          (inr (c.take.new.self, taken, subst (λ (k : ℕ). HasBadLine v (suc k) c.next.new.self c.take.new.self fault) one rest))),
    )
