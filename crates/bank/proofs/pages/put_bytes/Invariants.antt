use Rattle.std.proofs.Common.{◌≡◌, take}
use Rattle.std.specs.Prelude.{map}
use Rattle.std.specs.List.{concat}
use Rattle.std.specs.Vec.{vec_items}
use Rattle.bank.specs.Effect.{overlaid}
use Rattle.bank.specs.Pages.{ArePages}
use Rattle.bank.proofs.pages.put_bytes.Given as goal

abbrev pub invariant-loop-i : goal.invariant-loop-i
invariant-loop-i l =
    ArePages (map vec_items l.pages.items)
    × (concat (map vec_items l.pages.items) ≡ overlaid l.offset (concat (map vec_items l.initial.pages.items)) (take l.i l.bytes))
