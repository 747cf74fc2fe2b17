use Rattle.std.proofs.Common.{◌≡◌, ◌+◌, ◌∷◌, List, ℕ, suc, length, sym, ap, subst, arith, add-one}
use Rattle.machine.specs.Sizes.{Maps}
use Rattle.policy_table.specs.Surveys.{FindsLine, FindsLines}
use Rattle.policy_table.specs.declared.versions.TableVersion.{TableVersion}
use Rattle.policy_table.proofs.surveys.survey_lines.Goals as goal

pub loop-text-preserved : goal.loop-text-preserved
loop-text-preserved c =
    let v : TableVersion = c.args.version in
    let sizes : Maps = c.args.sizes.now in
    let text : List ℕ = c.in-Some.text.now in
    let next : c.loop-text.text-iterator ≡ text ∷ c.next.new.self = c.in-Some.ensures.steps in
    let one : c.loop-text.line + 1 ≡ suc c.loop-text.line = add-one c.loop-text.line in
    let found : FindsLine v sizes (suc c.loop-text.line) text c.loop-text.survey c.take.new.self = subst (λ (k : ℕ). FindsLine v sizes k text c.loop-text.survey c.take.new.self) one c.in_ok-take.ensures in
    let (count, finds) = c.loop-text.invariant in (
      omega (arith, count, ap (λ (lines : List (List ℕ)). length lines) next),
      λ end rest.
          finds end (subst (λ (lines : List (List ℕ)). FindsLines v sizes (suc c.loop-text.line) lines c.loop-text.survey end) (sym next)
          (c.take.new.self, found, subst (λ (k : ℕ). FindsLines v sizes (suc k) c.next.new.self c.take.new.self end) one rest)),
    )
