use Rattle.std.proofs.Common.{◌≡◌, ◌++◌, ◌∷◌, [], ℕ, List, true, sym, ap, ◌∙◌}
use Rattle.std.proofs.lemmas.List.{append_assoc}
use Rattle.std.proofs.lemmas.Result.{err_from_is_err_and}
use Rattle.std.specs.Result.{is_ok}
use Rattle.spw.specs.Line.{lines_of}
use Rattle.policy_table.proofs.BadLines.{unread}
use Rattle.policy_table.proofs.Readings.{rules_more}
use Rattle.policy_table.proofs.lines.read_rules.Goals as goal

pub loop-line-preserved : goal.loop-line-preserved
loop-line-preserved c =
    let (done, all, are) = c.loop-line.invariant in
    let line = c.in-Some.line.now in
    let next : c.loop-line.line-iterator ≡ line ∷ c.next.new.self = c.in-Some.ensures.steps in
    let grown : is_ok c.push.result ≡ true = sym c.map_err.ensures.variant ∙ ap is_ok c.in_ok-map_err.was in
    rw (c.push.ensures.items, grown)
    (done ++ line ∷ [], append_assoc done (line ∷ []) c.next.new.self ∙ ap (λ (left : List (List ℕ)). done ++ left) (sym next) ∙ all, rules_more done c.loop-line.rules.items line c.in_ok-rule.rule are c.in_ok-rule.ensures.read)

pub returns-in_err-rule-clause-fault : goal.returns-in_err-rule-clause-fault
returns-in_err-rule-clause-fault c =
    let (done, all, are) = c.loop-line.invariant in
    let line = c.in-Some.line.now in
    let next : c.loop-line.line-iterator ≡ line ∷ c.next.new.self = c.in-Some.ensures.steps in
    let here : done ++ line ∷ c.next.new.self ≡ lines_of c.args.text.now = ap (λ (left : List (List ℕ)). done ++ left) (sym next) ∙ all in
    let gone = err_from_is_err_and c.from_residual.result c.from_residual.ensures.1 in
    rw (gone.1, gone.2) (unread (lines_of c.args.text.now) done c.next.new.self line _ here c.in_err-rule.ensures.fault)
