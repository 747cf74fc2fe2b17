use Rattle.std.proofs.Common.{ℕ, List, subst, sym, ◌∙◌}
use Rattle.std.specs.Prelude.{OnOk}
use Rattle.std.specs.Io.KnownBytes.{Appends}
use Rattle.job_parts.proofs.ReplyLines.{line_is}
use Rattle.job_parts.proofs.replies.print_reply.Goals as goal

pub returns : goal.returns
returns g c =
    let P : List ℕ → Type 0 = λ text. OnOk c.print_joined.result (Appends (g.W.Write.contents c.args.out.now) (g.W.Write.contents c.print_joined.new.out) text) in
    subst P (line_is c.args.port c.args.reply.now c.number_text.result.items (sym c.is_empty.ensures ∙ c.if-is_empty.false) c.number_text.ensures.text) c.print_joined.ensures
