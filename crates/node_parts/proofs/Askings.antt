-- What a run leaves of a context.
use Rattle.std.proofs.Common.{◌≡◌, ℕ, List, ◌++◌, refl, ap}
use base.Stored.{Gv}
use Rattle.machine.specs.declared.calls.Call.{Call}
use Rattle.machine.specs.Sizes.{Maps}
use Rattle.rmap.specs.Windows.{WindowsValue}
use Rattle.node_parts.specs.Passes.{run_context, seat_at, context_after}

same_seat : (sizes sizes_too : Maps) (home home_too : Gv) (asked asked_too : List Call) → sizes ≡ sizes_too → home ≡ home_too → asked ≡ asked_too → seat_at sizes home asked ≡ seat_at sizes_too home_too asked_too
same_seat sizes sizes_too home home_too asked asked_too a b c = rw (a, b, c) refl

-- a seat that asked more, of a context that is otherwise the same
pub seat_asked : (port : ℕ) (windows : WindowsValue) (sizes sizes_too : Maps) (home home_too : Gv) (asked asked_too more : List Call) → sizes_too ≡ sizes → home_too ≡ home → asked_too ≡ asked ++ more → run_context port windows (seat_at sizes_too home_too asked_too) ≡ context_after (run_context port windows (seat_at sizes home asked)) more
seat_asked port windows sizes sizes_too home home_too asked asked_too more same named longer =
    ap (run_context port windows) (same_seat sizes_too sizes home_too home asked_too (asked ++ more) same named longer)
