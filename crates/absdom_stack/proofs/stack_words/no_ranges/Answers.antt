use Rattle.std.proofs.Common.{ap, arith}
use Rattle.absdom_num.specs.declared.ranges.Range.{Range}
use Rattle.absdom_num.specs.Ranges.{IsRange}
use Rattle.absdom_stack.proofs.WordSteps.{same_words}
use Rattle.absdom_stack.proofs.stack_words.no_ranges.Goals as goal

pub returns : goal.returns
returns c =
    let proper : IsRange c.single.result = record {
      in_order = omega (arith, ap (λ (r : Range). r.0) c.single.ensures, ap (λ (r : Range). r.1) c.single.ensures);
      words = omega (arith, ap (λ (r : Range). r.1) c.single.ensures);
    } in
    same_words c.single.result proper
