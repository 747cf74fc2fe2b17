use Rattle.std.proofs.Common.{◌<◌, ◌∙◌, ℕ, List, ap, length, map, sym, subst, rules}
use Rattle.std.specs.Io.KnownBytes.{Appends}
use Rattle.std.specs.Vec.{vec_items}
use Rattle.std.proofs.KnownBytes.{Appends-nil, Appends-trans}
use Rattle.ports.specs.Sinks.{SinkValue, replies_in}
use Rattle.job_ports.proofs.PrintedLines.{ports_at}
use Rattle.job_ports.proofs.serve.print_ports.Goals as goal

pub loop-sink-init : goal.loop-sink-init
loop-sink-init g c = (search rules, Appends-nil (g.W.Write.contents c.args.out.now))

pub loop-sink-preserved : goal.loop-sink-preserved
loop-sink-preserved g c =
    let sinks = c.args.sinks.now in let k = c.loop-sink.sink-index in
    let sent : SinkValue → List (List ℕ) = λ s. replies_in s.sent in
    let below : k < length sinks = search rules in
    let P : List ℕ → Type 0 = λ text. Appends (g.W.Write.contents c.args.out.now) (g.W.Write.contents c.print_replies.new.out) text in (
      search rules,
      subst P (sym (ports_at sent sinks k c.loop-sink.port _ (map vec_items c.replies.result.now) below c.loop-sink.invariant.0 (c.replies.ensures ∙ ap sent c.sink-item.is)))
          (Appends-trans _ _ _ _ _ c.loop-sink.invariant.1 c.in_ok-print_replies.ensures),
    )
