use Rattle.std.proofs.Common.{◌≡◌, ℕ, List, Bor, Option, refl, subst, ◌∙◌}
use Rattle.std.specs.Prelude.{◌||◌, MatchOption}
use Rattle.basm_lex.specs.Lines.{IsLabel, IsNoLabel}
use Rattle.std.proofs.lemmas.Result.{IfOk-weaker}
use Rattle.basm.specs.Labels.{declares_budget}
use Rattle.basm.proofs.Surveys.{survey_label, survey_word}
use Rattle.basm.proofs.survey.Survey.add_line.Goals as goal
use Rattle.basm.proofs.survey.Survey.add_line.Goals.{then-self, else-self}

pub returns-in-Some : goal.returns-in-Some
returns-in-Some c =
    let P : Option (Bor (List ℕ)) → Type 0 = λ o. MatchOption o (IsNoLabel c.args.line.now) (λ name. IsLabel c.args.line.now name.now) in
    let label = subst P c.in-Some.is c.read_head-head.ensures.label in
    IfOk-weaker c.add_name.result _ _ (λ x adds lines is. survey_label lines c.args.line.now c.in-Some.name.now c.args.self.now c.add_name.new.self label adds is) c.add_name.ensures

pub returns-after-self : goal.returns-after-self
returns-after-self c = λ lines is.
    let P : Option (Bor (List ℕ)) → Type 0 = λ o. MatchOption o (IsNoLabel c.args.line.now) (λ name. IsLabel c.args.line.now name.now) in
    let none = subst P c.in-None.is c.read_head-head.ensures.label in
    let budget : c.if-self.self ≡ (c.args.self.now.has_budget || declares_budget c.args.line.now) = elim c.if-self.branch [
      | then-self w ↦ w.self-is ∙ rw w.if-self.true refl
      | else-self w ↦ w.self-is ∙ w.eq-self.ensures ∙ rw (c.read_head-head.ensures.word, w.if-self.false) refl
    ] in
    survey_word lines c.args.line.now c.args.self.now _ none refl refl (c.saturating_add-self.ensures ∙ rw (c.slots_of.ensures, c.read_head-head.ensures.word) refl) budget is
