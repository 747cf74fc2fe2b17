-- What is taken of a stream.
use Rattle.std.proofs.Common.{◌≡◌, ◌≢◌, ◌<◌, ◌≤◌, ◌+◌, ℕ, suc, List, [], ◌∷◌, length, refl, sym, ap, ◌∙◌, arith}
use Rattle.std.specs.Prelude.{Option, Some, None, drop}
use Rattle.frames.specs.declared.received.Received.{Received}
use Rattle.frames.specs.Reading.{Reading, comes, reading_step}
use Rattle.frames.specs.Streams.{reading_after, received_in, onto}
use Rattle.frames_c.specs.Taking.{FramesAreTaken, Taken, take_whole, taken_with, whole_in, wholes}

-- ---- one call

-- the same after that many bytes, with none of which anything came whole
abbrev pub more : ℕ → Taken → Taken
more n t = record { count = n + t.count; received = t.received; next = t.next }

-- ---- call after call

dropped : (n : ℕ) (byte : ℕ) (bytes : List ℕ) → drop (n + 1) (byte ∷ bytes) ≡ drop n bytes
dropped n byte bytes = let e : n + 1 ≡ suc n = omega arith in rw e refl

some_with : (c : Option Received) (next : Reading) (others : Taken) → 0 < (taken_with c next others).count
some_with None next others = omega arith
some_with (Some received) next others = omega arith

some : (s : Reading) (bytes : List ℕ) → bytes ≢ [] → 0 < (take_whole s bytes).count
some s [] there = absurd (there refl)
some s (byte ∷ bytes) there = some_with (whole_in (comes s byte)) (reading_step s byte) (take_whole (reading_step s byte) bytes)

few_with : (c : Option Received) (next : Reading) (others : Taken) (size : ℕ) → others.count ≤ size → (taken_with c next others).count ≤ suc size
few_with None next others size few = omega (arith, few)
few_with (Some received) next others size few = omega arith

few : (s : Reading) (bytes : List ℕ) → (take_whole s bytes).count ≤ length bytes
few s [] = omega arith
few s (byte ∷ bytes) =
    few_with (whole_in (comes s byte)) (reading_step s byte) (take_whole (reading_step s byte) bytes) (length bytes) (few (reading_step s byte) bytes)

all_with : (c : Option Received) (next : Reading) (others : Taken) (size : ℕ) → (others.received ≡ None → others.count ≡ size)
    → (taken_with c next others).received ≡ None → (taken_with c next others).count ≡ suc size
all_with None next others size all none = let e : others.count ≡ size = all none in omega (arith, e)
all_with (Some received) next others size all none = let no : ⊥ = cc none in absurd no

all : (s : Reading) (bytes : List ℕ) → (take_whole s bytes).received ≡ None → (take_whole s bytes).count ≡ length bytes
all s [] none = refl
all s (byte ∷ bytes) none =
    all_with (whole_in (comes s byte)) (reading_step s byte) (take_whole (reading_step s byte) bytes) (length bytes) (all (reading_step s byte) bytes) none

-- what is whole of what came, and of what came after it
wholes_onto : (c : Option Received) (others : List Received) → wholes (onto c others) ≡ onto (whole_in c) (wholes others)
wholes_onto None others = refl
wholes_onto (Some received) others = refl

received_with : (c : Option Received) (next : Reading) (others : Taken) (byte : ℕ) (bytes : List ℕ)
    → wholes (received_in next bytes) ≡ onto others.received (wholes (received_in others.next (drop others.count bytes)))
    → onto c (wholes (received_in next bytes))
    ≡ onto (taken_with c next others).received (wholes (received_in (taken_with c next others).next (drop (taken_with c next others).count (byte ∷ bytes))))
received_with None next others byte bytes is =
    is ∙ ap (λ (bs : List ℕ). onto others.received (wholes (received_in others.next bs))) (sym (dropped others.count byte bytes))
received_with (Some received) next others byte bytes is = refl

received : (s : Reading) (bytes : List ℕ)
    → wholes (received_in s bytes)
    ≡ onto (take_whole s bytes).received (wholes (received_in (take_whole s bytes).next (drop (take_whole s bytes).count bytes)))
received s [] = refl
received s (byte ∷ bytes) =
    wholes_onto (comes s byte) (received_in (reading_step s byte) bytes)
    ∙ received_with (whole_in (comes s byte)) (reading_step s byte) (take_whole (reading_step s byte) bytes) byte bytes (received (reading_step s byte) bytes)

read_with : (c : Option Received) (next : Reading) (others : Taken) (byte : ℕ) (bytes : List ℕ)
    → reading_after next bytes ≡ reading_after others.next (drop others.count bytes)
    → reading_after next bytes ≡ reading_after (taken_with c next others).next (drop (taken_with c next others).count (byte ∷ bytes))
read_with None next others byte bytes is = is ∙ ap (reading_after others.next) (sym (dropped others.count byte bytes))
read_with (Some received) next others byte bytes is = refl

read : (s : Reading) (bytes : List ℕ) → reading_after s bytes ≡ reading_after (take_whole s bytes).next (drop (take_whole s bytes).count bytes)
read s [] = refl
read s (byte ∷ bytes) =
    read_with (whole_in (comes s byte)) (reading_step s byte) (take_whole (reading_step s byte) bytes) byte bytes (read (reading_step s byte) bytes)

pub taking : FramesAreTaken
taking = record { some = some; few = few; all = all; received = received; read = read }
