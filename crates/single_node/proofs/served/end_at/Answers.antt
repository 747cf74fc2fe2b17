use Rattle.std.proofs.Common.{◌≡◌, ◌∙◌, false, rules, true}
use Rattle.single_node.proofs.Ending.{bank_there, found_there}
use Rattle.single_node.proofs.served.end_at.Goals as goal

pub answer_elsewhere-status-requires : goal.answer_elsewhere-status-requires
answer_elsewhere-status-requires c =
    let is : c.has_bank.result ≡ true = c.has_bank.ensures ∙ found_there _ _ _ (bank_there _ _ _ _ _ c.requires.paired c.requires.placed c.requires.place) in
    let not_found : c.has_bank.result ≡ false = search rules in
    absurd (cc (is, not_found))

pub bank_mut-requires : goal.bank_mut-requires
bank_mut-requires c = (bank_there _ _ _ _ _ c.requires.paired c.requires.placed c.requires.place).0

pub apply-requires-clause-shared : goal.apply-requires-clause-shared
apply-requires-clause-shared c = (bank_there _ _ _ _ _ c.requires.paired c.requires.placed c.requires.place).1

pub apply-requires-clause-fits : goal.apply-requires-clause-fits
apply-requires-clause-fits c =
    c.paired_commands_fit.ensures c.args.banks.now c.args.port.now c.args.k c.args.judged c.bank_mut.result.now c.requires.paired c.requires.port c.requires.placed c.requires.place (search rules)

pub returns-then-not-has_bank : goal.returns-then-not-has_bank
returns-then-not-has_bank c = λ programs.
    let is : c.has_bank.result ≡ true = c.has_bank.ensures ∙ found_there _ _ _ (bank_there _ _ _ _ _ c.requires.paired c.requires.placed c.requires.place) in
    let not_found : c.has_bank.result ≡ false = search rules in
    absurd (cc (is, not_found))
