-- The place of a declared loop, and the slots that it holds.
use Rattle.std.proofs.Common.{◌≡◌, ℕ, zero, suc, ◌+◌, ◌<◌, ◌≤◌, true, List, [], ◌∷◌, length, arith}
use Rattle.std.specs.Prelude.{IsTrue, slice_index_or}
use Rattle.std.proofs.lemmas.Bool.Decides.{nat_tests}
use Rattle.bpf.specs.declared.loops.Loop.{Loop}
use Rattle.bpf.specs.Program.{AreLoops, IsLoop}
use Rattle.bver_form.specs.Loops.{holds}

-- a declared loop has the form of a loop, and its head is not below the least
pub loop_in : (slots least : ℕ) (ls : List Loop) (k : ℕ) (d : Loop) → AreLoops slots least ls → k < length ls → (least ≤ (slice_index_or ls k d).head) × IsLoop slots (slice_index_or ls k d)
loop_in slots least [] k d h below = absurd (omega arith)
loop_in slots least (l ∷ ls) zero d h below = (h.0, h.1)
loop_in slots least (l ∷ ls) (suc k) d h below =
    let rest = loop_in slots (l.head + 1) ls k d h.2 (omega arith) in
    (omega (arith, h.0, rest.0), rest.1)

pub inside_of : (l : Loop) (k : ℕ) → IsTrue (holds l k) → (l.head ≤ k) × (k ≤ l.back)
inside_of l k inside = grind (arith, nat_tests, inside)

pub holds_at : (l : Loop) (k : ℕ) → l.head ≤ k → k ≤ l.back → holds l k ≡ true
holds_at l k above below = grind (arith, nat_tests, above, below)
