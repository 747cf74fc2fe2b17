use Rattle.std.proofs.Common.{◌<◌, ◌≡◌, length, true, rules}
use Rattle.std.specs.Char.{is_ascii_digit}
use Rattle.std.specs.List.{list_all}
use Rattle.policy_table.proofs.Numerals.{of_digits, reads_count}
use Rattle.policy_table.proofs.fields.count_of.Goals as goal
use Rattle.policy_table.proofs.fields.count_of.Goals.{then-is_empty-via-then-is_empty, then-is_empty-via-else-is_empty+then-not-has_digits_alone}

pub returns-then-is_empty : goal.returns-then-is_empty
returns-then-is_empty c = λ numeral.
    let all : list_all is_ascii_digit c.args.word.now ≡ true = of_digits c.args.word.now numeral.1 in
    elim c.then-is_empty.branch [
      | then-is_empty-via-then-is_empty w ↦ search (rules, numeral.0)
      | then-is_empty-via-else-is_empty+then-not-has_digits_alone w ↦ search (rules, all)
    ]

pub returns : goal.returns
returns c =
    let some : 0 < length c.args.word.now = search rules in
    let alone : list_all is_ascii_digit c.args.word.now ≡ true = search rules in
    reads_count c.args.word.now c.parse.result c.unwrap_or.result some alone c.parse.ensures.value.0 c.unwrap_or.ensures
