-- The value of the option `--ns`: how many nanoseconds an instruction of each class takes.
use Rattle.std.specs.Prelude.{◌≡◌, ◌≢◌, ◌≤◌, ◌⊎◌, ◌==◌, ◌+◌, ◌-◌, ◌/◌, ◌%◌, ◌++◌, ℕ, Bool, if◌then◌else◌, List, []}
use Rattle.std.specs.Prelude.{All, Option, Some, None, length, map, codes, replicate, slice_index}
use Rattle.std.specs.List.{after_first, before_first}
use Rattle.std.specs.Str.Parse.{digits_value}
use Rattle.clap.specs.Walk.{Row, first_of}
use Rattle.job_parts.specs.Options.{IsNumberWithin, list_parts}
use Rattle.job_parts.specs.declared.usage.UsageFault.{UsageFault}
use Rattle.job_parts.specs.declared.usage.UsageFault.TheVariants.{Parse, BadOption, Memory}
use Rattle.weights.specs.Classes.{costs}
use Rattle.weights.specs.declared.costs.Costs.{Costs}
use Rattle.job_weigh.specs.declared.times.Times.{Times}
use Rattle.job_weigh.specs.declared.times.Unit.{Unit as TimeUnit}
use Rattle.job_weigh.specs.declared.times.Unit.TheVariants.{Nanosecond, Thousandth}

-- the point of a number (46)
abbrev pub is_point : ℕ → Bool
is_point c = c == 46

-- the digits of a part in thousandths: those before its point and those after it, and zeros (48) up to three of these
abbrev pub thousandths : List ℕ → List ℕ
thousandths part =
    (before_first is_point part ++ after_first is_point part) ++ replicate (3 - length (after_first is_point part)) 48

-- the digits of a part in that unit
abbrev pub digits_in : TimeUnit → List ℕ → List ℕ
digits_in Nanosecond part = part
digits_in Thousandth part = thousandths part

-- how many units an instruction takes: a decimal number below 2^32
abbrev pub IsTime : List ℕ → Type 0
IsTime part = IsNumberWithin 0 4294967295 part

-- a number of nanoseconds; or one with at most three digits after a point, and one at least before it
abbrev pub IsTimeIn : TimeUnit → List ℕ → Type 0
IsTimeIn Nanosecond part = IsTime part
IsTimeIn Thousandth part =
    (before_first is_point part ≢ []) × (length (after_first is_point part) ≤ 3) × IsTime (thousandths part)

-- how many units the part writes
abbrev pub value_in : TimeUnit → List ℕ → ℕ
value_in unit part = digits_value 10 (digits_in unit part)

-- the list has four parts that are times in that unit
abbrev pub IsTimes : TimeUnit → List ℕ → Type 0
IsTimes unit text = (length (list_parts text) ≡ 4) × All (IsTimeIn unit) (list_parts text)

-- the first four are of a division, a call, a conditional jump and any other instruction
abbrev pub times_of : List ℕ → Costs
times_of times = costs (slice_index times 0) (slice_index times 1) (slice_index times 2) (slice_index times 3)

-- the times that the parts of a list write in that unit
abbrev pub written_times : TimeUnit → List ℕ → Costs
written_times unit text = times_of (map (value_in unit) (list_parts text))

-- the list writes the times in that unit
pub record WritesIn (unit : TimeUnit) (text : List ℕ) (times : Times) : Type 0 where
  pub are : IsTimes unit text
  pub unit_is : times.unit ≡ unit
  pub costs_are : times.costs ≡ written_times unit text

-- the list writes the times: in nanoseconds if its parts are whole numbers, and else in thousandths
abbrev pub WritesTimes : List ℕ → Times → Type 0
WritesTimes text times = WritesIn Nanosecond text times ⊎ ((¬ IsTimes Nanosecond text) × WritesIn Thousandth text times)

-- the list writes times in neither unit, or memory was refused
abbrev pub LacksTimes : List ℕ → UsageFault → Type 0
LacksTimes text Memory = Unit {0}
LacksTimes text BadOption = (¬ IsTimes Nanosecond text) × (¬ IsTimes Thousandth text)
LacksTimes text (Parse said) = ⊥

-- the times are those that the option's value writes; without the option there are none
abbrev pub GivesTimes : Option (List ℕ) → Option Times → Type 0
GivesTimes None None = Unit {0}
GivesTimes None (Some times) = ⊥
GivesTimes (Some text) None = ⊥
GivesTimes (Some text) (Some times) = WritesTimes text times

-- the option has a value that is no list of times
abbrev pub AreBadTimes : Option (List ℕ) → Type 0
AreBadTimes None = ⊥
AreBadTimes (Some text) = LacksTimes text BadOption

-- matches with such a list for --ns, or memory was refused
abbrev pub RefusesTimes : List Row → UsageFault → Type 0
RefusesTimes rows Memory = Unit {0}
RefusesTimes rows BadOption = AreBadTimes (first_of (codes "ns") rows)
RefusesTimes rows (Parse text) = ⊥

-- this many thousandths, in whole numbers: a rest counts as one more
abbrev pub rounded_up : ℕ → ℕ
rounded_up count = if count % 1000 == 0 then count / 1000 else count / 1000 + 1

-- this many of a unit, in nanoseconds
abbrev pub in_nanoseconds : TimeUnit → ℕ → ℕ
in_nanoseconds Nanosecond count = count
in_nanoseconds Thousandth count = rounded_up count
