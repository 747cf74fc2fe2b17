use Rattle.std.proofs.Common.{sym, subst}
use Rattle.std.proofs.lemmas.Result.{IfOk-weaker}
use Rattle.job_texts.specs.Needed.{AreNeeded}
use Rattle.job_texts.proofs.needed.needed_line.Goals as goal

pub returns : goal.returns
returns c =
    let needed : AreNeeded c.args.image.now c.as_slice.result.now = subst (AreNeeded c.args.image.now) (sym c.as_slice.ensures.value) c.in_ok-maps.ensures in
    IfOk-weaker c.line_of.result _ _ (λ line is. record { maps = c.as_slice.result.now; needed = needed; line_is = is }) c.line_of.ensures
