use Rattle.std.proofs.Common.{◌≡◌, ◌+◌, ◌++◌, ◌∷◌, [], true, false, ℕ, List, sym, ap, ◌∙◌, subst, arith}
use Rattle.std.proofs.lemmas.Bool.{le-ltb, lt-ltb}
use Rattle.std.proofs.lemmas.List.{append-nil, drop_all}
use Rattle.std.specs.Prelude.{nat_lt}
use Rattle.machine.specs.declared.calls.Call.{Call}
use Rattle.machine.specs.Memory.{header}
use Rattle.policy_table.specs.Meaning.{draw}
use Rattle.policy_table.proofs.Walks.{IsOnWay, draws, ends_by_none, ends_by_rule, ends_by_ticket, made_with, made_without}
use Rattle.policy_table.proofs.matching.match_of.Goals as goal

pub returns-in_default : goal.returns-in_default
returns-in_default g c =
    let w = ends_by_rule g.T.Tickets.next g.T.Tickets.after c.args.rules.now (header c.args.front.now c.args.tail.now) c.args.calls.now.items c.args.tickets.now c.loop-rule.rule-index c.loop-rule.calls.items c.loop-rule.tickets _ c.loop-rule-test.true (sym c.holds.ensures ∙ c.if-not-holds.false) c.in_default.is c.loop-rule.invariant.2 in record {
      found_is = made_without _ _ _ _ c.by_rule.ensures c.loop-rule.invariant.0 ∙ w.found_is;
      calls_are = sym (append-nil c.loop-rule.calls.items) ∙ w.calls_are;
      left_is = w.left_is;
    }

pub returns-then-call-from : goal.returns-then-call-from
returns-then-call-from g c =
    let quota = c.in-Some.quota in
    let drawn = c.draw_ticket-call.ensures.drawn in
    let ticket : ℕ = g.T.Tickets.next c.loop-rule.tickets quota.map quota.cell in
    let answer : c.draw_ticket-call.result.answer ≡ ticket = ap (λ (call : Call). call.answer) drawn in
    let below : nat_lt ticket quota.limit ≡ true = lt-ltb ticket quota.limit (omega (arith, c.if-call-from.true, c.from.ensures, answer)) in
    let w = ends_by_ticket g.T.Tickets.next g.T.Tickets.after c.args.rules.now (header c.args.front.now c.args.tail.now) c.args.calls.now.items c.args.tickets.now c.loop-rule.rule-index c.loop-rule.calls.items c.loop-rule.tickets _ quota c.loop-rule-test.true (sym c.holds.ensures ∙ c.if-not-holds.false) c.in-Some.is below c.loop-rule.invariant.2 in record {
      found_is = made_with _ _ _ _ _ _ c.by_rule-then-call-from.ensures c.loop-rule.invariant.0 drawn ∙ w.found_is;
      calls_are = c.push_reserved.ensures.items ∙ ap (λ (call : Call). c.loop-rule.calls.items ++ call ∷ []) drawn ∙ w.calls_are;
      left_is = c.draw_ticket-call.ensures.left ∙ w.left_is;
    }

pub loop-rule-preserved : goal.loop-rule-preserved
loop-rule-preserved g c =
    let quota = c.in-Some.quota in
    let drawn = c.draw_ticket-call.ensures.drawn in
    let ticket : ℕ = g.T.Tickets.next c.loop-rule.tickets quota.map quota.cell in
    let answer : c.draw_ticket-call.result.answer ≡ ticket = ap (λ (call : Call). call.answer) drawn in
    let spent : nat_lt ticket quota.limit ≡ false = le-ltb ticket quota.limit (omega (arith, c.if-call-from.false, c.from.ensures, answer)) in
    let way = draws g.T.Tickets.next g.T.Tickets.after c.args.rules.now (header c.args.front.now c.args.tail.now) c.args.calls.now.items c.args.tickets.now c.loop-rule.rule-index c.loop-rule.calls.items c.loop-rule.tickets _ quota c.loop-rule-test.true (sym c.holds.ensures ∙ c.if-not-holds.false) c.in-Some.is spent c.loop-rule.invariant.2 in
    let pushed = c.push_reserved.ensures.items ∙ ap (λ (call : Call). c.loop-rule.calls.items ++ call ∷ []) drawn in
    let next : ℕ = c.loop-rule.rule-index + 1 in
    let on : List Call → _ → Type 0 = λ calls tickets. IsOnWay g.T.Tickets.next g.T.Tickets.after c.args.rules.now (header c.args.front.now c.args.tail.now) c.args.calls.now.items c.args.tickets.now next calls tickets in (
      omega (arith, c.loop-rule.invariant.0),
      omega (arith, c.loop-rule-test.true, c.loop-rule.invariant.1, c.push_reserved.ensures.len, c.push_reserved.ensures.capacity),
      subst (λ (calls : List Call). on calls c.draw_ticket-call.new.self) (sym pushed) (subst (λ tickets. on (c.loop-rule.calls.items ++ draw quota ticket ∷ []) tickets) (sym c.draw_ticket-call.ensures.left) way),
    )

pub returns : goal.returns
returns g c =
    let w = ends_by_none g.T.Tickets.next g.T.Tickets.after c.args.rules.now (header c.args.front.now c.args.tail.now) c.args.calls.now.items c.args.tickets.now c.loop-rule.rule-index c.loop-rule.calls.items c.loop-rule.tickets (drop_all c.loop-rule.rule-index c.args.rules.now (omega (arith, c.loop-rule-test.false))) c.loop-rule.invariant.2 in record {
      found_is = w.found_is;
      calls_are = sym (append-nil c.loop-rule.calls.items) ∙ w.calls_are;
      left_is = w.left_is;
    }
