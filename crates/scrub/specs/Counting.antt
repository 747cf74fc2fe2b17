-- Before which packets a program is scrubbed: by numbers beside their complements, which may disagree.
use Rattle.std.specs.Prelude.{ℕ, ◌-◌, ◌^◌, ◌==◌, ◌&&◌, nat_le, not, Bool, false, true, if◌then◌else◌}
use Rattle.scrub.specs.declared.counting.Counting.{Counting}

-- the complement of a number of 32 bits: each of its bits is the other one
abbrev pub complement_of_count : ℕ → ℕ
complement_of_count number = 2 ^ 32 - 1 - number

-- these numbers, each beside its complement
abbrev pub counting_of : (each left : ℕ) → Counting
counting_of each left =
    record { each = each; left = left; each_kept = complement_of_count each; left_kept = complement_of_count left }

-- each number agrees with its complement
abbrev pub agrees : Counting → Bool
agrees c = (c.each_kept == complement_of_count c.each) && (c.left_kept == complement_of_count c.left)

-- if the numbers agree, a scrub is due before the last packet of that many, if they are counted
abbrev pub is_last : (each left : ℕ) → Bool
is_last each left = if each == 0 then false else nat_le left 1

-- A scrub is due before this packet: it is the last of that many, or a number and its complement disagree.
abbrev pub is_due : Counting → Bool
is_due c = if agrees c then is_last c.each c.left else true

-- packets are counted, or it is not known that they are not
abbrev pub is_on : Counting → Bool
is_on c = not (agrees c && (c.each == 0))

-- how many packets are left after one before which no scrub is due
abbrev pub counted : Counting → Counting
counted c = counting_of c.each (if c.each == 0 then c.left else c.left - 1)

-- The numbers after the scrub that was due. Those that disagree stay.
abbrev pub renewed : Counting → Counting
renewed c = if agrees c then counting_of c.each c.each else c
