use Rattle.std.proofs.Common.{ℕ, ◌<◌}
use Rattle.std.specs.Prelude.{slice_index_or}
use Rattle.bpf.specs.declared.loops.Loop.{Loop}
use Rattle.bver_form.specs.Loops.{IsLoopFormed}
use Rattle.bver_form.proofs.loops.check_loops.Given as goal

abbrev pub invariant-loop-declared : goal.invariant-loop-declared
invariant-loop-declared l = (k : ℕ) (m : Loop) → k < l.declared-index → IsLoopFormed l.image (slice_index_or l.image.loops k m)
