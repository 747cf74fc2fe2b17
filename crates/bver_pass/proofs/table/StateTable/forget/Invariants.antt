use Rattle.std.proofs.Common.{◌≡◌, ◌<◌, ℕ, None, length}
use Rattle.std.specs.Prelude.{slice_index_or}
use Rattle.bver_pass.proofs.table.StateTable.forget.Given as goal

abbrev pub invariant-loop-place : goal.invariant-loop-place
invariant-loop-place l =
    (l.self-inside.image.now ≡ l.fn.self.program) × (l.self-inside.places.items ≡ l.fn.self.places) × (length l.self-inside.entries.items ≡ length l.fn.self.entries) × ((k : ℕ) → k < l.place → slice_index_or l.self-inside.entries.items k None ≡ None)
