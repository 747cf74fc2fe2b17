use Rattle.std.proofs.Common.{ℕ, ◌<◌}
use Rattle.std.specs.Prelude.{slice_index_or}
use Rattle.bpf.specs.declared.loops.Loop.{Loop}
use Rattle.bver_form.specs.Loops.{EntersAtHeadFrom}
use Rattle.bver_form.proofs.loops.enters_each_at_head.Given as goal

abbrev pub invariant-loop-declared : goal.invariant-loop-declared
invariant-loop-declared l = (k : ℕ) (m : Loop) → k < l.declared-index → EntersAtHeadFrom l.image (slice_index_or l.image.loops k m) l.slot
