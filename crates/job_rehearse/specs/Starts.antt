-- The cells of a node before a load: cells that nobody asked, or cells that are past every quota.
use Rattle.std.specs.Prelude.{◌≡◌, ◌+◌, ◌-◌, ◌^◌, ◌%◌, [], ℕ, List, map}
use base.Stored.{Gv, gnil, gnum}
use Rattle.machine.specs.Runs.{call}
use Rattle.machine.specs.Sizes.{Maps, kind_of_map}
use Rattle.machine.specs.declared.calls.Call.{Call}
use Rattle.machine.specs.declared.kinds.MapKind.{MapKind}
use Rattle.machine.specs.declared.kinds.MapKind.TheVariants.{Counter, Peak}
use Rattle.plain_cells.specs.Words.{AreCallsOn, zero_words}
use Rattle.job_rehearse.specs.declared.starts.LoadCells.{LoadCells}
use Rattle.job_rehearse.specs.declared.starts.Start.{Start}
use Rattle.job_rehearse.specs.declared.starts.Start.TheVariants.{Fresh, Spent}

-- what a cell answers that began so, if a cell that nobody asked before gives that answer. For a counter that has given
-- 2^32 tickets the number is 2^32 higher, modulo 2^64, and a peak is the greatest number
abbrev pub raised_answer : Start → MapKind → (answer : ℕ) → ℕ
raised_answer Fresh Counter answer = answer
raised_answer Fresh Peak answer = answer
raised_answer Spent Counter answer = (answer + 2 ^ 32) % 2 ^ 64
raised_answer Spent Peak answer = 2 ^ 64 - 1

-- the same of a call
abbrev pub raised_call : Start → Maps → Call → Call
raised_call start sizes c = call c.question (raised_answer start (kind_of_map sizes c.question.map) c.answer)

-- cells that began so answered the calls in order: as cells that nobody asked would, each answer raised by what was before
pub record AreAnsweredFrom (start : Start) (sizes : Maps) (calls : List Call) : Type 0 where
  pub own : List Call
  pub following : List (List ℕ)
  pub in_order : AreCallsOn sizes (zero_words sizes) own following
  pub raised : calls ≡ map (raised_call start sizes) own

-- ---- as values

-- the name of cells that began so
abbrev pub home_of : Start → Gv
home_of Fresh = gnil
home_of Spent = gnum 1

-- the calls so far
abbrev pub asked_so_far : LoadCells → List Call
asked_so_far c = map (raised_call c.start c.cells.sizes) c.cells.asked

-- nobody asked the cells of these maps, which began so
pub record AreBegun (start : Start) (sizes : Maps) (c : LoadCells) : Type 0 where
  pub start_is : c.start ≡ start
  pub sizes_are : c.cells.sizes ≡ sizes
  pub unasked : c.cells.asked ≡ []
