use Rattle.std.proofs.Common.{arith, rules}
use Rattle.page_format.proofs.Found.{number_found}
use Rattle.page_format.proofs.reading.number_of.Goals as goal

pub returns : goal.returns
returns c =
    number_found c.args.bytes.now c.in_ok-head.rest.now c.from_le_bytes.result (omega (arith, c.in_ok-head.ensures.cases.2)) (λ i. omega (arith, c.type_inv.bytes i)) (search rules) (search rules)
