use Rattle.std.proofs.Common.{◌≡◌, ◌++◌, drop, string_bytes}
use Rattle.job_texts.specs.Listed.{numbered_lines}
use Rattle.job_texts.proofs.listed.add_insns.Given as goal

abbrev pub invariant-loop-slot : goal.invariant-loop-slot
invariant-loop-slot l =
    string_bytes l.text ++ numbered_lines l.slot (drop l.slot l.image.slots) ≡ string_bytes l.initial.text ++ numbered_lines 0 l.image.slots
