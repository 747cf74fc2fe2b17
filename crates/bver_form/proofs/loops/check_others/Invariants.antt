use Rattle.std.proofs.Common.{ℕ, ◌<◌, ◌≢◌}
use Rattle.std.specs.Prelude.{slice_index_or}
use Rattle.bpf.specs.declared.loops.Loop.{Loop}
use Rattle.bver_form.specs.Loops.{IsNestedOrApart}
use Rattle.bver_form.proofs.loops.check_others.Given as goal

abbrev pub invariant-loop-other : goal.invariant-loop-other
invariant-loop-other l = (k : ℕ) (m : Loop) → k < l.other-index → (slice_index_or l.image.loops k m).head ≢ l.declared.head → IsNestedOrApart l.declared (slice_index_or l.image.loops k m)
