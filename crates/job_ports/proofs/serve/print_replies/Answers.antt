use Rattle.std.proofs.Common.{◌<◌, ◌∙◌, ℕ, List, ap, length, sym, subst, rules}
use Rattle.std.specs.Io.KnownBytes.{Appends}
use Rattle.std.specs.Vec.{vec_items}
use Rattle.std.proofs.KnownBytes.{Appends-nil, Appends-trans}
use Rattle.job_ports.proofs.PrintedLines.{lines_at}
use Rattle.job_ports.proofs.serve.print_replies.Goals as goal

pub loop-reply-init : goal.loop-reply-init
loop-reply-init g c = Appends-nil (g.W.Write.contents c.args.out.now)

pub loop-reply-preserved : goal.loop-reply-preserved
loop-reply-preserved g c =
    let replies = c.args.replies.now in let k = c.loop-reply.reply-index in
    let below : k < length replies = search rules in
    let P : List ℕ → Type 0 = λ text. Appends (g.W.Write.contents c.args.out.now) (g.W.Write.contents c.print_reply.new.out) text in
    subst P (sym (lines_at vec_items c.args.port replies k _ c.deref.result.now below (c.deref.ensures.value ∙ ap vec_items c.reply-item.is)))
    (Appends-trans _ _ _ _ _ c.loop-reply.invariant c.in_ok-print_reply.ensures)
