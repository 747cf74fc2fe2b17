use Rattle.std.proofs.Common.{◌==◌, not, length, [], ◌∷◌, Some, None, refl, sym, lit<, arith, rules, tests}
use Rattle.std.proofs.lemmas.Iterator.Consumers.{YieldsList-at, YieldsList-end, YieldsList-from_filter, YieldsList-turn}
use Rattle.std.proofs.lemmas.Iterator.Splits.{YieldsList-from_str_split}
use Rattle.policy_table.proofs.lines.eight_words.Goals as goal

pub returns-in_err-kind : goal.returns-in_err-kind
returns-in_err-kind c =
    let end = YieldsList-end (YieldsList-from_filter _ (λ word. not (length word == 0))
    (YieldsList-at c.filter-words.ensures.source (YieldsList-from_str_split 32 c.args.line.now (lit< tt) c.split.ensures.text c.split.ensures.has_more c.split.ensures.pattern))
    c.filter-words.ensures.closure (λ x r q k. search (rules, tests)))
    ([]) _ refl None _ refl c.in_err-kind.ensures.steps in
    rw c.from_residual.ensures (λ eight. absurd (omega (arith, end.1, eight)))

pub returns-in_err-key : goal.returns-in_err-key
returns-in_err-key c =
    let end = YieldsList-end (YieldsList-from_filter _ (λ word. not (length word == 0))
    (YieldsList-at c.filter-words.ensures.source (YieldsList-from_str_split 32 c.args.line.now (lit< tt) c.split.ensures.text c.split.ensures.has_more c.split.ensures.pattern))
    c.filter-words.ensures.closure (λ x r q k. search (rules, tests)))
    (c.in_ok-kind.kind ∷ []) _ (_, c.in_ok-kind.ensures.steps, refl) None _ refl c.in_err-key.ensures.steps in
    rw c.from_residual-in_err-key.ensures (λ eight. absurd (omega (arith, end.1, eight)))

pub returns-in_err-initiator : goal.returns-in_err-initiator
returns-in_err-initiator c =
    let end = YieldsList-end (YieldsList-from_filter _ (λ word. not (length word == 0))
    (YieldsList-at c.filter-words.ensures.source (YieldsList-from_str_split 32 c.args.line.now (lit< tt) c.split.ensures.text c.split.ensures.has_more c.split.ensures.pattern))
    c.filter-words.ensures.closure (λ x r q k. search (rules, tests)))
    (c.in_ok-kind.kind ∷ c.in_ok-key.key ∷ []) _ (_, c.in_ok-kind.ensures.steps, (_, c.in_ok-key.ensures.steps, refl)) None _ refl c.in_err-initiator.ensures.steps in
    rw c.from_residual-in_err-initiator.ensures (λ eight. absurd (omega (arith, end.1, eight)))

pub returns-in_err-extended : goal.returns-in_err-extended
returns-in_err-extended c =
    let end = YieldsList-end (YieldsList-from_filter _ (λ word. not (length word == 0))
    (YieldsList-at c.filter-words.ensures.source (YieldsList-from_str_split 32 c.args.line.now (lit< tt) c.split.ensures.text c.split.ensures.has_more c.split.ensures.pattern))
    c.filter-words.ensures.closure (λ x r q k. search (rules, tests)))
    (c.in_ok-kind.kind ∷ c.in_ok-key.key ∷ c.in_ok-initiator.initiator ∷ []) _ (_, c.in_ok-kind.ensures.steps, (_, c.in_ok-key.ensures.steps, (_, c.in_ok-initiator.ensures.steps, refl))) None _ refl c.in_err-extended.ensures.steps in
    rw c.from_residual-in_err-extended.ensures (λ eight. absurd (omega (arith, end.1, eight)))

pub returns-in_err-low : goal.returns-in_err-low
returns-in_err-low c =
    let end = YieldsList-end (YieldsList-from_filter _ (λ word. not (length word == 0))
    (YieldsList-at c.filter-words.ensures.source (YieldsList-from_str_split 32 c.args.line.now (lit< tt) c.split.ensures.text c.split.ensures.has_more c.split.ensures.pattern))
    c.filter-words.ensures.closure (λ x r q k. search (rules, tests)))
    (c.in_ok-kind.kind ∷ c.in_ok-key.key ∷ c.in_ok-initiator.initiator ∷ c.in_ok-extended.extended ∷ []) _ (_, c.in_ok-kind.ensures.steps, (_, c.in_ok-key.ensures.steps, (_, c.in_ok-initiator.ensures.steps, (_, c.in_ok-extended.ensures.steps, refl)))) None _ refl c.in_err-low.ensures.steps in
    rw c.from_residual-in_err-low.ensures (λ eight. absurd (omega (arith, end.1, eight)))

pub returns-in_err-high : goal.returns-in_err-high
returns-in_err-high c =
    let end = YieldsList-end (YieldsList-from_filter _ (λ word. not (length word == 0))
    (YieldsList-at c.filter-words.ensures.source (YieldsList-from_str_split 32 c.args.line.now (lit< tt) c.split.ensures.text c.split.ensures.has_more c.split.ensures.pattern))
    c.filter-words.ensures.closure (λ x r q k. search (rules, tests)))
    (c.in_ok-kind.kind ∷ c.in_ok-key.key ∷ c.in_ok-initiator.initiator ∷ c.in_ok-extended.extended ∷ c.in_ok-low.low ∷ []) _ (_, c.in_ok-kind.ensures.steps, (_, c.in_ok-key.ensures.steps, (_, c.in_ok-initiator.ensures.steps, (_, c.in_ok-extended.ensures.steps, (_, c.in_ok-low.ensures.steps, refl))))) None _ refl c.in_err-high.ensures.steps in
    rw c.from_residual-in_err-high.ensures (λ eight. absurd (omega (arith, end.1, eight)))

pub returns-in_err-quota : goal.returns-in_err-quota
returns-in_err-quota c =
    let end = YieldsList-end (YieldsList-from_filter _ (λ word. not (length word == 0))
    (YieldsList-at c.filter-words.ensures.source (YieldsList-from_str_split 32 c.args.line.now (lit< tt) c.split.ensures.text c.split.ensures.has_more c.split.ensures.pattern))
    c.filter-words.ensures.closure (λ x r q k. search (rules, tests)))
    (c.in_ok-kind.kind ∷ c.in_ok-key.key ∷ c.in_ok-initiator.initiator ∷ c.in_ok-extended.extended ∷ c.in_ok-low.low ∷ c.in_ok-high.high ∷ []) _ (_, c.in_ok-kind.ensures.steps, (_, c.in_ok-key.ensures.steps, (_, c.in_ok-initiator.ensures.steps, (_, c.in_ok-extended.ensures.steps, (_, c.in_ok-low.ensures.steps, (_, c.in_ok-high.ensures.steps, refl)))))) None _ refl c.in_err-quota.ensures.steps in
    rw c.from_residual-in_err-quota.ensures (λ eight. absurd (omega (arith, end.1, eight)))

pub returns-in_err-verdict : goal.returns-in_err-verdict
returns-in_err-verdict c =
    let end = YieldsList-end (YieldsList-from_filter _ (λ word. not (length word == 0))
    (YieldsList-at c.filter-words.ensures.source (YieldsList-from_str_split 32 c.args.line.now (lit< tt) c.split.ensures.text c.split.ensures.has_more c.split.ensures.pattern))
    c.filter-words.ensures.closure (λ x r q k. search (rules, tests)))
    (c.in_ok-kind.kind ∷ c.in_ok-key.key ∷ c.in_ok-initiator.initiator ∷ c.in_ok-extended.extended ∷ c.in_ok-low.low ∷ c.in_ok-high.high ∷ c.in_ok-quota.quota ∷ []) _ (_, c.in_ok-kind.ensures.steps, (_, c.in_ok-key.ensures.steps, (_, c.in_ok-initiator.ensures.steps, (_, c.in_ok-extended.ensures.steps, (_, c.in_ok-low.ensures.steps, (_, c.in_ok-high.ensures.steps, (_, c.in_ok-quota.ensures.steps, refl))))))) None _ refl c.in_err-verdict.ensures.steps in
    rw c.from_residual-in_err-verdict.ensures (λ eight. absurd (omega (arith, end.1, eight)))

pub returns-in-None : goal.returns-in-None
returns-in-None c =
    let end = YieldsList-end (YieldsList-from_filter _ (λ word. not (length word == 0))
    (YieldsList-at c.filter-words.ensures.source (YieldsList-from_str_split 32 c.args.line.now (lit< tt) c.split.ensures.text c.split.ensures.has_more c.split.ensures.pattern))
    c.filter-words.ensures.closure (λ x r q k. search (rules, tests)))
    (c.in_ok-kind.kind ∷ c.in_ok-key.key ∷ c.in_ok-initiator.initiator ∷ c.in_ok-extended.extended ∷ c.in_ok-low.low ∷ c.in_ok-high.high ∷ c.in_ok-quota.quota ∷ c.in_ok-verdict.verdict ∷ []) _ (_, c.in_ok-kind.ensures.steps, (_, c.in_ok-key.ensures.steps, (_, c.in_ok-initiator.ensures.steps, (_, c.in_ok-extended.ensures.steps, (_, c.in_ok-low.ensures.steps, (_, c.in_ok-high.ensures.steps, (_, c.in_ok-quota.ensures.steps, (_, c.in_ok-verdict.ensures.steps, refl)))))))) None _ refl c.in-None.ensures.steps in
    sym end.0

pub returns-in-Some : goal.returns-in-Some
returns-in-Some c =
    let turn = YieldsList-turn (YieldsList-from_filter _ (λ word. not (length word == 0))
    (YieldsList-at c.filter-words.ensures.source (YieldsList-from_str_split 32 c.args.line.now (lit< tt) c.split.ensures.text c.split.ensures.has_more c.split.ensures.pattern))
    c.filter-words.ensures.closure (λ x r q k. search (rules, tests)))
    (c.in_ok-kind.kind ∷ c.in_ok-key.key ∷ c.in_ok-initiator.initiator ∷ c.in_ok-extended.extended ∷ c.in_ok-low.low ∷ c.in_ok-high.high ∷ c.in_ok-quota.quota ∷ c.in_ok-verdict.verdict ∷ []) _ (_, c.in_ok-kind.ensures.steps, (_, c.in_ok-key.ensures.steps, (_, c.in_ok-initiator.ensures.steps, (_, c.in_ok-extended.ensures.steps, (_, c.in_ok-low.ensures.steps, (_, c.in_ok-high.ensures.steps, (_, c.in_ok-quota.ensures.steps, (_, c.in_ok-verdict.ensures.steps, refl)))))))) (Some c.in-Some.field-0) c.next-9.new.self c.in-Some.field-0 refl c.in-Some.ensures.steps in
    λ eight. absurd (omega (arith, turn.0, eight))
