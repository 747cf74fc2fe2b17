use Rattle.std.proofs.Common.{◌≡◌, List, ℕ, true, false, length, ap, rules, ◌∙◌}
use Rattle.std.specs.Borrow.{Bor}
use Rattle.std.specs.Prelude.{map, nat_lt}
use Rattle.std.proofs.lemmas.Result.{IfOk-weaker}
use Rattle.job_live.specs.declared.answering.TheConstants.{MAX_LINE}
use Rattle.job_live.proofs.Taken.{long_answered, setting_answered}
use Rattle.job_live.proofs.answering.answer.Goals as goal

pub returns-then-line-gt-MAX_LINE-clause-answers : goal.returns-then-line-gt-MAX_LINE-clause-answers
returns-then-line-gt-MAX_LINE-clause-answers c =
    let long : nat_lt MAX_LINE (length c.args.line.now) ≡ true = search rules in
    let same = ap (λ (words : List (Bor (List ℕ))). map (λ (word : Bor (List ℕ)). word.now) words) c.as_slice.ensures.value ∙ c.in_ok-words.ensures in
    let other = ap (λ (words : List (Bor (List ℕ))). map (λ (word : Bor (List ℕ)). word.now) words) c.as_slice-then-line-gt-MAX_LINE.ensures.value ∙ c.in_ok-words.ensures in
    long_answered _ _ _ _ _ _ _ _ _ _ same c.asked-asks.ensures other long c.long_fault.ensures c.in_ok-print_fault.ensures

pub returns-clause-answers : goal.returns-clause-answers
returns-clause-answers c =
    let short : nat_lt MAX_LINE (length c.args.line.now) ≡ false = search rules in
    let same = ap (λ (words : List (Bor (List ℕ))). map (λ (word : Bor (List ℕ)). word.now) words) c.as_slice.ensures.value ∙ c.in_ok-words.ensures in
    let other = ap (λ (words : List (Bor (List ℕ))). map (λ (word : Bor (List ℕ)). word.now) words) c.as_slice-in-Set.ensures.value ∙ c.in_ok-words.ensures in
    IfOk-weaker c.answer_setting.result _ _
    (λ is_bad set. setting_answered _ _ _ _ _ _ _ _ _ _ is_bad same c.asked-asks.ensures c.in-Set.is other short set)
    c.answer_setting.ensures.answers
