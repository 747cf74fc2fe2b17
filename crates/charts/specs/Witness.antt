-- A header of a command at a point, and the law that each point has one.
use Rattle.std.specs.Prelude.{◌≡◌, ◌==◌, ◌+◌, ◌-◌, if◌then◌else◌, ℕ, List, [], ◌∷◌, ◌++◌}
use Rattle.byteorder.specs.Endian.{big_bytes}
use Rattle.machine.specs.Memory.{Header, header}
use Rattle.rmap.specs.declared.kind.Kind.{Kind}
use Rattle.rmap.specs.declared.kind.Kind.TheVariants.{Read, Rmw, Unused, Write}
use Rattle.charts.specs.Same.{MayBeJudged}
use Rattle.policy_table.specs.Meaning.{AreAnswerWords, decision}
use Rattle.charts.specs.Points.{IsDifference, header_point_of}
use Rattle.charts.specs.Tickets.{AreTickets}
use Rattle.regions.specs.declared.points.Point.{Point}
use Rattle.policy_table.specs.declared.rules.Rule.{Rule}

-- the instruction of a command of this kind, with a reply and increment
abbrev pub instruction_for : Kind → ℕ
instruction_for Read = 76
instruction_for Write = 108
instruction_for Rmw = 92
instruction_for Unused = 64

-- the length field of a command of this kind with this many addresses from its first to its last. A read-modify-write
-- of one address has no data and no mask
abbrev pub length_for : Kind → (addresses : ℕ) → ℕ
length_for Read addresses = addresses
length_for Write addresses = addresses
length_for Rmw addresses = if addresses == 1 then 0 else addresses
length_for Unused addresses = addresses

-- a header at the point, with increment and as many bytes of data as lie from its first address to its last
abbrev pub header_for : Point → Header
header_for p = header (254 ∷ 1 ∷ instruction_for p.kind ∷ p.key ∷ [])
    (p.initiator ∷ 0 ∷ 0 ∷ p.extended ∷ [] ++ big_bytes 4 p.first ++ big_bytes 3 (length_for p.kind (p.last + 1 - p.first)) ++ 0 ∷ [])

-- a header of a command that may be judged is decided differently, for some tickets
pub record IsWitness (old new : List Rule) (h : Header) : Type 0 where
  pub judged : MayBeJudged h
  pub reported : ℕ → ℕ
  pub words : AreAnswerWords reported
  pub old_tickets : AreTickets (decision old h reported).0
  pub new_tickets : AreTickets (decision new h reported).0
  pub differ : ¬ (decision old h reported ≡ decision new h reported)

-- if two tables differ at a point, the header there is a witness, and it has that point
abbrev pub DifferencesHaveHeaders : Type 0
DifferencesHaveHeaders =
    (old new : List Rule) (p : Point) → IsDifference old new p → IsWitness old new (header_for p) × (header_point_of (header_for p) ≡ p)
