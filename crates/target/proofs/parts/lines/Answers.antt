use Rattle.std.proofs.Common.{◌∙◌, [], sym, arith, rules}
use Rattle.std.proofs.lemmas.List.FromFn.{map-range_with_len_more}
use Rattle.target.proofs.parts.lines.Goals as goal

pub loop-port-preserved : goal.loop-port-preserved
loop-port-preserved g c =
    let port = c.loop-port.port in
    let more = map-range_with_len_more (λ n. record { port = n; asked = [] }) 0 port port (omega arith) in
    record {
      lines = c.in_ok-push.ensures.items ∙ rw (c.loop-port.invariant.lines, c.in-Some.ensures.line) (sym more);
      family = search rules;
      chains = search rules;
    }
