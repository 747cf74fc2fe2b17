-- A port between two packets: what looking back on the history finds of it, and what it has.
use Rattle.std.proofs.Common.{◌≡◌, ◌+◌, ◌<◌, ℕ, List, [], ◌∷◌, ◌++◌, length, Option, Some, None, refl, sym, ap, subst, ◌∙◌, append_assoc, inl, inr}
use Rattle.std.specs.Prelude.{option_map, slice_get}
use mathlib.Core.List.{IsPrefix}
use Rattle.spw.specs.Cargo.{Cargo}
use Rattle.rmap.specs.declared.status.Status.{Status}
use Rattle.rmap.specs.Checks.{header_line}
use Rattle.rmap.specs.Command.{command_of}
use Rattle.bank.specs.Records.{EntryValue}
use Rattle.bpf.specs.Program.{Program}
use Rattle.node_programs.specs.declared.publishes.Publish.{Publish}
use Rattle.node_programs.specs.Published.{judging_program, sizes_of}
use Rattle.node_parts.specs.declared.config.BankConfig.{BankConfig}
use Rattle.node_parts.specs.declared.stop.Stop.TheVariants as stops
use Rattle.node_parts.specs.Steps.{IsStopped}
use Rattle.annals.specs.declared.deed.HistoryEntry.{HistoryEntry}
use Rattle.annals.specs.Banks.{entries_of}
use Rattle.ports.specs.Due.{Deed, IsDropped, IsUnjudged, Standing}
use Rattle.ports.specs.Due.Deed.{Dropped, Answered as Replied}
use Rattle.ports.specs.Laws.{next_number_at}
use Rattle.sched.specs.Agreement.{program_and_generation}
use Rattle.sched.specs.declared.event.Event.TheVariants.{Take}
use Rattle.sched.specs.declared.event.Outcome.TheVariants.{Discarded, Answered}
use Rattle.sched.specs.History.{History, Then, opened}
use Rattle.sched.specs.Lawful.{IsLawfulExceptAnswers, header_outcome, packet_outcome, take_outcome}
use Rattle.sched.specs.Looking.{Node, entries, published, publishes, staging, windows_in}
use Rattle.lawful.specs.Happenings.{Happening, HappenBy, HappensBy, happened_at, happening}
use Rattle.lawful.proofs.Keeping.{Keeps, StaysElsewhere, elsewhere_on, happened_here, one_elsewhere, opened_here, staging_here}
use Rattle.lawful.proofs.Reporting.{outcome_here}

-- what looking back finds published is what judges by that list, which has as many programs
pub record IsKnown (n : Node) (h : History) (programs : List Publish) : Type 0 where
  pub shown : (slot : ℕ) → option_map program_and_generation (judging_program programs slot) ≡ Some (published n h slot)
  pub count : length programs ≡ publishes n h + 1
  pub sizes : sizes_of programs ≡ n.sizes

-- the entries are the first that the port's list has of the bank, as many as its share counts
pub record IsLeftSoFar (es : List EntryValue) (k : ℕ) (s : Standing) : Type 0 where
  pub begin : IsPrefix es (entries_of k s.front)
  pub number : length es ≡ next_number_at s.pass k

-- a port that judges no command, after that history
pub record IsIdle (n : Node) (port : ℕ) (start : List HistoryEntry) (h : History) (s : Standing) : Type 0 where
  pub lawful : IsLawfulExceptAnswers n h
  pub closed : opened h port ≡ None
  pub staging_is : staging n h port ≡ s.pass.staging
  pub known : IsKnown n h s.pass.programs
  pub port_is : s.pass.port ≡ port
  pub windows : s.pass.windows ≡ windows_in n
  pub shares : length s.pass.shares ≡ length n.banks
  pub began : IsPrefix start s.front
  pub banks : (k : ℕ) (bank : BankConfig) → slice_get n.banks k ≡ Some bank → IsLeftSoFar (entries n h k) k s

pub known_kept : (n : Node) (port : ℕ) (h after : History) (programs : List Publish) → Keeps n port h after → IsKnown n h programs → IsKnown n after programs
known_kept n port h after programs keeps known = record {
  shown = λ slot. known.shown slot ∙ ap (λ (x : Program × ℕ). Some x) (sym (keeps.programs slot));
  count = known.count ∙ ap (λ (x : ℕ). x + 1) (sym keeps.count);
  sizes = known.sizes;
}

pub left_kept : (es fs : List EntryValue) (k : ℕ) (s : Standing) → fs ≡ es → IsLeftSoFar es k s → IsLeftSoFar fs k s
left_kept es fs k s same left = subst (λ (xs : List EntryValue). IsLeftSoFar xs k s) (sym same) left

-- after events that keep all, a port that is as it was
idle_kept : (n : Node) (port : ℕ) (start : List HistoryEntry) (h after : History) (s : Standing) → Keeps n port h after → IsLawfulExceptAnswers n after → opened after port ≡ None → IsIdle n port start h s → IsIdle n port start after s
idle_kept n port start h after s keeps lawful closed idle = record {
  lawful = lawful;
  closed = closed;
  staging_is = keeps.own ∙ idle.staging_is;
  known = known_kept n port h after s.pass.programs keeps idle.known;
  port_is = idle.port_is;
  windows = idle.windows;
  shares = idle.shares;
  began = idle.began;
  banks = λ k bank there. left_kept (entries n h k) (entries n after k) k s (keeps.banks k) (idle.banks k bank there);
}

-- what became of a packet, as a history goes on by it
pub record HasDealt (n : Node) (port : ℕ) (start : List HistoryEntry) (d : Deed) (p : Cargo) (h : History) (s : Standing) : Type 0 where
  pub after : History
  pub idle : IsIdle n port start after s
  pub happened : List Happening
  pub is : happened_at port after ≡ happened_at port h ++ happened
  pub by : HappensBy d port p happened
  pub elsewhere : StaysElsewhere n port h after

-- what became of some packets
pub record HasGone (n : Node) (port : ℕ) (start : List HistoryEntry) (ps : List Cargo) (ds : List Deed) (h : History) (s : Standing) : Type 0 where
  pub after : History
  pub idle : IsIdle n port start after s
  pub happened : List Happening
  pub is : happened_at port after ≡ happened_at port h ++ happened
  pub by : HappenBy port ps ds happened
  pub elsewhere : StaysElsewhere n port h after

pub gone_on : (n : Node) (port : ℕ) (start : List HistoryEntry) (d : Deed) (ds : List Deed) (p : Cargo) (ps : List Cargo) (h : History) (s last : Standing) (here : HasDealt n port start d p h s)
    → HasGone n port start ps ds here.after last → HasGone n port start (p ∷ ps) (d ∷ ds) h last
gone_on n port start d ds p ps h s last here rest = record {
  after = rest.after;
  idle = rest.idle;
  happened = here.happened ++ rest.happened;
  is = rest.is ∙ (ap (λ (xs : List Happening). xs ++ rest.happened) here.is ∙ append_assoc (happened_at port h) here.happened rest.happened);
  by = (here.happened, rest.happened, refl, here.by, rest.by);
  elsewhere = elsewhere_on n port h here.after rest.after here.elsewhere rest.elsewhere;
}

-- ---- packets that no program judges

-- a packet that no program judged, as a history goes on by it
pub record HasPassed (n : Node) (port : ℕ) (d : Deed) (p : Cargo) (h : History) : Type 0 where
  pub after : History
  pub lawful : IsLawfulExceptAnswers n after
  pub closed : opened after port ≡ None
  pub keeps : Keeps n port h after
  pub happened : List Happening
  pub is : happened_at port after ≡ happened_at port h ++ happened
  pub by : HappensBy d port p happened

-- a packet that is no command
pub dropped_thus : (n : Node) (port : ℕ) (p : Cargo) (h : History) (s after : Standing) → port < n.ports → IsLawfulExceptAnswers n h → opened h port ≡ None → IsDropped p s after → HasPassed n port Dropped p h
dropped_thus n port p h s after there lawful closed is =
    let o = Discarded is.discard in
    let reported : o ≡ take_outcome n h p (opened h port) = sym (ap (take_outcome n h p) closed ∙ ap (packet_outcome n h p) is.discarded) in
    record {
      after = Then h (Take port p) o;
      lawful = (lawful, outcome_here n h (Take port p) o port refl there reported);
      closed = opened_here h (Take port p) o port refl ∙ closed;
      keeps = record {
        programs = λ slot. refl;
        count = refl;
        banks = λ k. refl;
        own = staging_here n h (Take port p) o port refl;
        elsewhere = one_elsewhere n h (Take port p) o port refl;
      };
      happened = happening (Take port p) o ∷ [];
      is = happened_here h (Take port p) o port refl;
      by = (is.discard, refl);
    }

-- a packet that a check of its header answers
answered_thus : (n : Node) (port : ℕ) (p : Cargo) (reply : List ℕ) (status : Status) (h : History) (s : Standing) → port < n.ports → IsLawfulExceptAnswers n h → opened h port ≡ None → s.pass.windows ≡ windows_in n
    → IsStopped (stops.Answered status) p s.pass.windows reply → HasPassed n port (Replied reply) p h
answered_thus n port p reply status h s there lawful closed windows is =
    let o = Answered status reply in
    let line : header_line (command_of p) (windows_in n) ≡ Some status = ap (header_line (command_of p)) (sym windows) ∙ is.0.stopped in
    let reported : o ≡ take_outcome n h p (opened h port) =
    ap (λ (bytes : List ℕ). Answered status bytes) is.1 ∙ sym (ap (take_outcome n h p) closed ∙ (ap (packet_outcome n h p) is.0.command ∙ ap (header_outcome n h p) line)) in
    record {
      after = Then h (Take port p) o;
      lawful = (lawful, outcome_here n h (Take port p) o port refl there reported);
      closed = opened_here h (Take port p) o port refl ∙ closed;
      keeps = record {
        programs = λ slot. refl;
        count = refl;
        banks = λ k. refl;
        own = staging_here n h (Take port p) o port refl;
        elsewhere = one_elsewhere n h (Take port p) o port refl;
      };
      happened = happening (Take port p) o ∷ [];
      is = happened_here h (Take port p) o port refl;
      by = (status, refl);
    }

none_some : (a : Option Status) (status : Status) → a ≡ None → a ≡ Some status → ⊥
none_some a status none some = cc (none, some)

pub replied_thus : (n : Node) (port : ℕ) (p : Cargo) (reply : List ℕ) (h : History) (s after : Standing) → port < n.ports → IsLawfulExceptAnswers n h → opened h port ≡ None → s.pass.windows ≡ windows_in n
    → (status : Status) × (header_line (command_of p) (windows_in n) ≡ Some status) → IsUnjudged reply p s after → HasPassed n port (Replied reply) p h
replied_thus n port p reply h s after there lawful closed windows full is =
    elim is.answered [
      | inl stopped ↦ answered_thus n port p reply stopped.0 h s there lawful closed windows stopped.1
      | inr unread ↦
          absurd (none_some (header_line (command_of p) (windows_in n)) full.0 (ap (header_line (command_of p)) (sym windows) ∙ unread.allowed.allowed) full.1)
    ]

-- a port that knows what it knew
passed : (n : Node) (port : ℕ) (start : List HistoryEntry) (d : Deed) (p : Cargo) (h : History) (s after : Standing) → IsIdle n port start h s → after ≡ s → HasPassed n port d p h → HasDealt n port start d p h after
passed n port start d p h s after idle same it = record {
  after = it.after;
  idle = subst (λ (x : Standing). IsIdle n port start it.after x) (sym same) (idle_kept n port start h it.after s it.keeps it.lawful it.closed idle);
  happened = it.happened;
  is = it.is;
  by = it.by;
  elsewhere = it.keeps.elsewhere;
}

pub dropped : (n : Node) (port : ℕ) (start : List HistoryEntry) (p : Cargo) (h : History) (s after : Standing) → port < n.ports → IsIdle n port start h s → IsDropped p s after → HasDealt n port start Dropped p h after
dropped n port start p h s after there idle is = passed n port start Dropped p h s after idle is.same (dropped_thus n port p h s after there idle.lawful idle.closed is)

pub replied : (n : Node) (port : ℕ) (start : List HistoryEntry) (p : Cargo) (reply : List ℕ) (h : History) (s after : Standing) → port < n.ports → IsIdle n port start h s
    → (status : Status) × (header_line (command_of p) (windows_in n) ≡ Some status) → IsUnjudged reply p s after → HasDealt n port start (Replied reply) p h after
replied n port start p reply h s after there idle full is = passed n port start (Replied reply) p h s after idle is.same (replied_thus n port p reply h s after there idle.lawful idle.closed idle.windows full is)
