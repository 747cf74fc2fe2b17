-- What is lent of a port at which no command is judged.
use Rattle.std.proofs.Common.{◌≡◌, ◌<◌, ℕ, Option, Some, None, IfNone, refl}
use Rattle.std.specs.Prelude.{slice_get}
use Rattle.sched.specs.History.{History, Open, opened}
use Rattle.sched.specs.Looking.{Node}
use Rattle.sched.specs.Standing.{IsLent}
use Rattle.sched.specs.Worlds.{IsJudging, IsWorldOf, PortValue, WorldValue}
use Rattle.sched.specs.declared.standing.Standing as lent

none_open : (n : Node) (port : ℕ) (last : Option Open) → IsLent n port last None → last ≡ None
none_open n port None is = refl
none_open n port (Some o) is = absurd is

-- if nothing is lent of a port that is there, no command is open
pub free_port : (w : WorldValue) (port : ℕ) (p : PortValue) (r : Option lent.Standing) → slice_get w.ports port ≡ Some p
    → ((n : Node) (k : ℕ) (last : Option Open) → IsJudging n k last p.run → IsLent n k last r)
    → IfNone r ((n : Node) (h : History) → IsWorldOf n h w → port < n.ports → opened h port ≡ None)
free_port w port p (Some s) found lends = tt
free_port w port p None found lends =
    λ n h world low. none_open n port (opened h port) (lends n port (opened h port) ((world.ports_are.each port p found).judging))
