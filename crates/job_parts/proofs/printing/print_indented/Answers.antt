use Rattle.std.proofs.Common.{ℕ, List, subst}
use Rattle.std.specs.Io.KnownBytes.{Appends}
use Rattle.std.specs.List.{flat_map}
use Rattle.std.proofs.lemmas.Iterator.Consumers.{YieldsList-at, YieldsList-end}
use Rattle.std.proofs.lemmas.Iterator.Splits.{YieldsList-from_lines}
use Rattle.job_parts.specs.Printed.{indented_line}
use Rattle.job_parts.proofs.printing.print_indented.Goals as goal

pub returns : goal.returns
returns g c =
    let road = YieldsList-at c.into_iter-line-iterator.ensures.into_iter_gives (YieldsList-from_lines c.args.text.now c.lines-line-items.ensures.rest) in
    let all = YieldsList-end road c.loop-line.yielded _ c.loop-line.yielded_by _ _ c.in-None.is c.next.ensures.steps in
    let P : List (List ℕ) → Type 0 = λ lines. Appends (g.W.Write.contents c.args.out.now) (g.W.Write.contents c.loop-line.out) (flat_map indented_line lines) in
    subst P all.0 c.loop-line.invariant
