-- A port's queue: what was put is what was taken, and then what the queue holds. One pass puts, and one takes.
use Rattle.std.specs.Prelude.{◌≡◌, ◌≤◌, ◌^◌, ℕ, Bool, true, List, ◌++◌, length, min}
use mathlib.Core.Option.{some}
use lib.ListN.{get_elem?}
use Rattle.crossbeam_queue.specs.Passes.{view, IsPassOf, IsSamePass, ruled_capacity}
use Rattle.ports.specs.declared.item.Item.{Item}
use Rattle.ports.specs.declared.item.Log.{Log}
use Rattle.ports.specs.declared.port.Port.{Port}
use Rattle.ports.specs.declared.port.PutPass.{PutPass}
use Rattle.ports.specs.declared.port.ServePass.{ServePass}

-- a view with these rights, which has put and taken these items
abbrev pub log : Bool → Bool → List Item → List Item → Log
log puts takes put taken = record { puts = puts; takes = takes; put = put; taken = taken }

-- A pass that may put is the writer's and has what was put. A pass that may take is the reader's and has what was
-- taken.
abbrev pub FitsPass : (writer reader : ℕ) → (put taken : List Item) → ℕ → Log → Type 0
FitsPass writer reader put taken pass v =
    (v.puts ≡ true → (pass ≡ writer) × (v.put ≡ put)) × (v.takes ≡ true → (pass ≡ reader) × (v.taken ≡ taken))

-- In order: what was put is what was taken, and then what the queue holds. At most one pass puts, and at most one
-- takes.
abbrev pub InOrder : List Item → List Log → Type 0
InOrder items views = (writer : ℕ) × (reader : ℕ) × (put : List Item) × (taken : List Item) × (put ≡ taken ++ items)
    × ((pass : ℕ) (v : Log) → get_elem? views pass ≡ some v → FitsPass writer reader put taken pass v)

-- the second list ends with the first
abbrev pub IsEnd : List Item → List Item → Type 0
IsEnd items all = (first : List Item) × (all ≡ first ++ items)

-- what a pass has put, in order
abbrev pub put_of : PutPass → List Item
put_of p = (view p.pass).put

-- what a pass has taken, in order
abbrev pub taken_of : ServePass → List Item
taken_of p = (view p.pass).taken

-- the pass is of this port, may put, and counts what it has put
abbrev pub IsPutPassOf : Port → PutPass → Type 0
IsPutPassOf port p = IsPassOf port.queue p.pass × ((view p.pass).puts ≡ true) × (p.puts ≡ length (put_of p))

-- the pass is of this port, and may take
abbrev pub IsServePassOf : Port → ServePass → Type 0
IsServePassOf port p = IsPassOf port.queue p.pass × ((view p.pass).takes ≡ true)

-- The second pass is the first, later: it is of the same port, and it may take.
abbrev pub IsServePassAfter : (old new : ServePass) → Type 0
IsServePassAfter old new = IsSamePass old.pass new.pass × ((view new.pass).takes ≡ true)

-- how many items a port's queue has room for
abbrev pub capacity_of : Port → ℕ
capacity_of port = ruled_capacity port.queue

-- as many items were put as the queue has room for, or 2^62: with fewer it was never full
abbrev pub MayBeFull : Port → PutPass → Type 0
MayBeFull port p = min (capacity_of port) (2 ^ 62) ≤ length (put_of p)
