use Rattle.std.proofs.Common.{ℕ, List, ◌++◌, ap, append-nil, subst, ◌∙◌}
use Rattle.std.specs.Prelude.{OnOk}
use Rattle.std.specs.Io.KnownBytes.{Appends}
use Rattle.hex.specs.Hex.{encode_upper}
use Rattle.job_parts.proofs.replies.print_hex.Goals as goal

pub returns : goal.returns
returns g c =
    let P : List ℕ → Type 0 = λ text. OnOk c.print_joined.result (Appends (g.W.Write.contents c.args.out.now) (g.W.Write.contents c.print_joined.new.out) text) in
    let digits = encode_upper c.args.bytes.now in
    subst P (append-nil (c.new.result.items ++ digits) ∙ ap (λ (front : List ℕ). front ++ digits) c.new.ensures) c.print_joined.ensures
