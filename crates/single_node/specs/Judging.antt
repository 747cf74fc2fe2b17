-- How a port of a node of one thread judges a command, and how that ends.
use Rattle.std.specs.Prelude.{◌≡◌, ℕ, List, Some, slice_get, slice_set}
use Rattle.bank.specs.declared.bank.Applied.{Applied}
use Rattle.bank.specs.Records.{AdmittedValue, BankValue, JudgedValue}
use Rattle.node_programs.specs.declared.publishes.Publish.{Publish}
use Rattle.node_programs.specs.Published.{sizes_of}
use Rattle.rmap.specs.declared.places.Place.TheVariants.{Bank}
use Rattle.spw.specs.Cargo.{Cargo}
use Rattle.node_parts.specs.Applied.{IsApplied, share_of}
use Rattle.node_parts.specs.Passes.{PassValue}
use Rattle.node_parts.specs.Served.{EndsAtWindow, IsUntouched, PartsValue, parts}
use Rattle.node_parts.specs.Steps.{IsAdmission, IsJudgement, IsStopped}
use Rattle.plain_cells.specs.Words.{AreCallsOn}
use Rattle.node_parts.specs.declared.served.Served.{Served}
use Rattle.node_parts.specs.declared.served.Served.TheVariants.{Stopped, Unread, Done, Window}
use Rattle.node_parts.specs.declared.stop.Stop.{Stop}
use Rattle.single_node.specs.Serving.{IsJudgedByLast}

-- The last program that was published for its slot judged the command of the packet, in one run. The words answered its
-- calls and are then those, and the port then knows of all that was published.
pub record IsLastJudgement (programs : List Publish) (words following : List (List ℕ)) (old new : PassValue) (p : Cargo)
    (j : JudgedValue) : Type 0 where
  pub judgement : IsJudgement old new p j
  pub by_last : IsJudgedByLast programs old new p j judgement
  pub cells : AreCallsOn (sizes_of programs) words judgement.calls following
  pub knows : new.programs ≡ programs

-- the same of a command that was admitted as it came
abbrev pub JudgesByLast : (programs : List Publish) → (words following : List (List ℕ)) → (old new : PassValue)
    → AdmittedValue → JudgedValue → Type 0
JudgesByLast programs words following old new admitted j =
    (p : Cargo) → IsAdmission admitted p old.windows → IsLastJudgement programs words following old new p j

-- A judged command was applied to the bank of its place, with the port's share of it. Nothing else changed.
pub record IsAppliedAt (old new : PartsValue) (holder after : PassValue) (judged : JudgedValue) (result : Applied)
    (bytes : List ℕ) : Type 0 where
  pub number : ℕ
  pub before : BankValue
  pub following : BankValue
  pub place : judged.place ≡ Bank number
  pub bank : slice_get old.banks number ≡ Some before
  pub node : new ≡ parts (slice_set old.banks number following) old.programs
  pub applied : IsApplied before following (share_of holder judged.place) holder after judged result bytes

-- how a judged command ends: at the bank of its place, or in the boot window, and then no bank changes
abbrev pub EndsJudged : Served → (old new : PartsValue) → (holder after : PassValue) → JudgedValue → List ℕ → Type 0
EndsJudged (Stopped stop) old new holder after judged bytes = ⊥
EndsJudged Unread old new holder after judged bytes = ⊥
EndsJudged (Done result) old new holder after judged bytes = IsAppliedAt old new holder after judged result bytes
EndsJudged (Window status) old new holder after judged bytes =
    (new.banks ≡ old.banks)
    × EndsAtWindow judged.place holder after old.programs new.programs judged status bytes

-- The last program for its slot, of that generation, judged the command of the packet with that verdict. It left the
-- port so, and then the command ended.
pub record JudgesAndEnds (served : Served) (generation verdict : ℕ) (p : Cargo) (words following : List (List ℕ))
    (old new : PartsValue) (h after : PassValue) (reply : List ℕ) : Type 0 where
  pub judged : JudgedValue
  pub between : PassValue
  pub last : IsLastJudgement old.programs words following h between p judged
  pub ended : EndsJudged served old new between after judged reply
  pub generation_is : generation ≡ judged.generation
  pub verdict_is : verdict ≡ judged.verdict

-- its header stopped the packet, and no program judged
pub record StopsAtHeader (stop : Stop) (generation verdict : ℕ) (p : Cargo) (words following : List (List ℕ))
    (old new : PartsValue) (h after : PassValue) (reply : List ℕ) : Type 0 where
  pub stopped : IsStopped stop p h.windows reply
  pub not_asked : following ≡ words
  pub untouched : IsUntouched old new h after
  pub generation_is : generation ≡ 0
  pub verdict_is : verdict ≡ 0

-- what becomes of a packet at a port: its header stops it, or its command is judged and ends
abbrev pub ServesAt : Served → (generation verdict : ℕ) → Cargo → (words following : List (List ℕ))
    → (old new : PartsValue) → (h after : PassValue) → List ℕ → Type 0
ServesAt (Stopped stop) g v p words following old new h after reply =
    StopsAtHeader stop g v p words following old new h after reply
ServesAt Unread g v p words following old new h after reply = ⊥
ServesAt (Done result) g v p words following old new h after reply =
    JudgesAndEnds (Done result) g v p words following old new h after reply
ServesAt (Window status) g v p words following old new h after reply =
    JudgesAndEnds (Window status) g v p words following old new h after reply
