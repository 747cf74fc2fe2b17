use Rattle.std.proofs.Common.{◌≡◌, ◌∙◌, List, ℕ, false, subst, sym, true}
use Rattle.std.proofs.lemmas.Result.{on_ok_weaker}
use Rattle.std.specs.Io.KnownBytes.{Appends}
use Rattle.bank.specs.Records.{is_whole}
use Rattle.job_live.proofs.EntryLines.{line_by}
use Rattle.job_live.proofs.reporting.print_entry.Goals as goal

pub returns-then-is_whole : goal.returns-then-is_whole
returns-then-is_whole g c =
    let old = g.W.Write.contents c.args.out.now in
    let new = g.W.Write.contents c.print_whole.new.out in
    let whole : is_whole c.args.entry.now ≡ true = sym c.is_whole.ensures ∙ c.if-is_whole.true in
    on_ok_weaker c.print_whole.result (λ reported. subst (λ (text : List ℕ). Appends old new text) (sym (line_by c.args.entry.now true whole)) reported) c.print_whole.ensures

pub returns : goal.returns
returns g c =
    let old = g.W.Write.contents c.args.out.now in
    let new = g.W.Write.contents c.print_damaged.new.out in
    let damaged : is_whole c.args.entry.now ≡ false = sym c.is_whole.ensures ∙ c.if-is_whole.false in
    on_ok_weaker c.print_damaged.result (λ reported. subst (λ (text : List ℕ). Appends old new text) (sym (line_by c.args.entry.now false damaged)) reported) c.print_damaged.ensures
