-- How a judged command ends at a port's own staging, or at the result of its last load.
use Rattle.std.specs.Prelude.{◌≡◌, ◌⊎◌, ℕ, List}
use Rattle.rmap.specs.declared.boot.TheConstants.{LOAD_REGISTER}
use Rattle.rmap.specs.declared.places.Place.{Place}
use Rattle.rmap.specs.declared.places.Place.TheVariants.{Bank, Staging, LoadResult, Control}
use Rattle.rmap.specs.declared.status.Status.{Status}
use Rattle.bank.specs.Answer.{Answer}
use Rattle.bank.specs.Records.{JudgedValue, answer_on}
use Rattle.node_programs.specs.Staged.{Staged, staged}

-- the place is the staging or the load result
abbrev pub IsStagingPlace : Place → Type 0
IsStagingPlace place = (place ≡ Staging) ⊎ (place ≡ LoadResult)

-- The bytes of a staging lie from address 0 on, and its load result from that of the load register on.
abbrev pub answer_at_place : Place → Staged → JudgedValue → Answer
answer_at_place (Bank k) s j = answer_on 0 s.bytes j
answer_at_place Staging s j = answer_on 0 s.bytes j
answer_at_place LoadResult s j = answer_on LOAD_REGISTER s.load_result j
answer_at_place Control s j = answer_on 0 s.bytes j

-- a staging after a command at that place: only a load changes the load result
abbrev pub after_place : Place → Staged → JudgedValue → Staged
after_place (Bank k) s j = s
after_place Staging s j = staged (answer_on 0 s.bytes j).memory.bytes s.load_result
after_place LoadResult s j = s
after_place Control s j = s

-- the answer to a judged command at a staging
abbrev pub answer_staged : Staged → JudgedValue → Answer
answer_staged s j = answer_at_place j.place s j

-- a staging after a judged command
abbrev pub after_staged : Staged → JudgedValue → Staged
after_staged s j = after_place j.place s j

-- status and reply are those of the command's answer at the staging, and so are the bytes that it leaves
pub record IsStaged (old new : Staged) (j : JudgedValue) (result : Status) (bytes : List ℕ) : Type 0 where
  pub status : result ≡ (answer_staged old j).status
  pub staging : new ≡ after_staged old j
  pub reply : bytes ≡ (answer_staged old j).reply
