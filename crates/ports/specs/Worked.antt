-- What a worker did until the end mark.
use Rattle.std.specs.Prelude.{◌≡◌, ◌⊎◌, ℕ, ◌+◌, suc, List, [], ◌∷◌, ◌++◌, map}
use Rattle.spw.specs.Cargo.{Cargo}
use Rattle.ports.specs.declared.item.Item.TheVariants.{Data, Mark}
use Rattle.ports.specs.declared.worker.Report.{Report}
use Rattle.ports.specs.declared.worker.Worker.{Worker}
use Rattle.ports.specs.Due.{Deed, Standing, Worked, due, discarded, standing}
use Rattle.ports.specs.Queue.{taken_of}
use Rattle.ports.specs.Sinks.{SentReply, cut, sent_at}

-- the second list is the first without that many of its replies
abbrev pub IsThinned : List SentReply → List SentReply → ℕ → Type 0
IsThinned [] kept lost = (kept ≡ []) × (lost ≡ 0)
IsThinned (r ∷ rs) kept lost =
    ((rest : List SentReply) × (kept ≡ r ∷ rest) × IsThinned rs rest lost)
    ⊎ ((fewer : ℕ) × (lost ≡ suc fewer) × IsThinned rs kept fewer)

-- the sink took these replies in order, except the lost ones, which it counts
pub record HasTaken (sent sent' : List SentReply) (failed failed' : ℕ)
    (replies : List SentReply) (lost : ℕ) : Type 0 where
  pub kept : List SentReply
  pub thinned : IsThinned replies kept lost
  pub taken : sent' ≡ sent ++ kept
  pub failures : cut failed' ≡ cut (failed + lost)

-- two reports as one
abbrev pub report_sum : Report → Report → Report
report_sum a b = record { discarded = cut (a.discarded + b.discarded); lost = cut (a.lost + b.lost) }

-- What is due became of each packet and of the port. The sink took the replies that were due, with the port's number.
-- The report counts the packets that were no command and the replies that were lost.
pub record HasServed {S : Type 0} (sent : S → List SentReply) (failed : S → ℕ) (h after : Standing) (sink sink' : S)
    (packets : List Cargo) (report : Report) : Type 0 where
  pub deeds : List Deed
  pub lost : ℕ
  pub worked : Worked h packets deeds after
  pub replies : HasTaken (sent sink) (sent sink') (failed sink) (failed sink') (sent_at h.pass.port (due deeds)) lost
  pub lost_count : report.lost ≡ cut lost
  pub discarded_count : report.discarded ≡ cut (discarded deeds)

-- what the worker's port has of its node, asked for, and knows of its history
abbrev pub standing_of : {J S : Type 0} → Worker J S → Standing
standing_of worker = standing worker.pass worker.front

-- the worker took packets and then the end mark, and served each packet
pub record IsWorked {J S : Type 0} (sent : S → List SentReply) (failed : S → ℕ)
    (old new : Worker J S) (report : Report) : Type 0 where
  pub packets : List Cargo
  pub took : taken_of new.serve_pass ≡ taken_of old.serve_pass ++ map Data packets ++ Mark ∷ []
  pub served : HasServed sent failed (standing_of old) (standing_of new) old.sink new.sink packets report
