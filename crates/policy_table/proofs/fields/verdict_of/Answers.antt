use Rattle.std.proofs.Common.{◌≡◌, ◌≢◌, ◌<◌, length, get_or, rules}
use Rattle.rmap.specs.declared.verdict.Verdict.{Verdict}
use Rattle.rmap.specs.Verdict.{verdict_number, verdict_of}
use Rattle.policy_table.proofs.VerdictWords.{no_leading_zero, is_decimal, is_this_word, is_none}
use Rattle.policy_table.proofs.fields.verdict_of.Goals as goal
use Rattle.policy_table.proofs.fields.verdict_of.Goals.{else-word-gt1-via-then-word-gt1+else-starts_with, else-word-gt1-via-else-word-gt1}

pub returns-then-starts_with : goal.returns-then-starts_with
returns-then-starts_with c =
    let more : 1 < length c.args.word.now = search rules in
    let zero : get_or c.args.word.now 0 0 ≡ 48 = search rules in
    no_leading_zero c.args.word.now more zero

pub returns-in_err-number : goal.returns-in_err-number
returns-in_err-number c =
    rw c.from_residual.ensures (λ (v : Verdict) is. c.in_err-number.ensures (is_decimal c.args.word.now v is).0)

pub returns-then-number-from : goal.returns-then-number-from
returns-then-number-from c =
    let alone : get_or c.args.word.now 0 0 ≡ 48 → length c.args.word.now ≡ 1 = elim c.else-word-gt1.branch [
      | else-word-gt1-via-then-word-gt1+else-starts_with w ↦ search rules
      | else-word-gt1-via-else-word-gt1 w ↦ search rules
    ] in
    let same : c.in_ok-number.number ≡ verdict_number c.of_word-verdict.result = search rules in
    is_this_word c.args.word.now c.in_ok-number.number c.of_word-verdict.result c.in_ok-number.ensures same alone

pub returns-else-number-from : goal.returns-else-number-from
returns-else-number-from c =
    let other : c.in_ok-number.number ≢ verdict_number (verdict_of c.in_ok-number.number) = search rules in
    is_none c.args.word.now c.in_ok-number.number c.in_ok-number.ensures other
