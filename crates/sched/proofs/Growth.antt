-- What one pair more at the end of a history changes, and what it leaves.
use Rattle.std.proofs.Common.{◌≡◌, ℕ, List, length, Bool, true, false, cond, ◌==◌, Option, Some, refl, sym, subst, ◌∙◌, eqb-true, set}
use Rattle.std.specs.Prelude.{slice_get, slice_set}
use Rattle.std.proofs.lemmas.Bool.{eqb-false}
use Rattle.std.proofs.lemmas.Grind.{get_or-set_at}
use Rattle.std.proofs.lemmas.List.{length-set}
use Rattle.std.proofs.lemmas.Option.{slice_get_within, get_or_from_slice_get}
use Rattle.bank.specs.Records.{EntryValue, numbers_of}
use Rattle.node_programs.specs.Staged.{Staged}
use Rattle.sched.specs.declared.event.Event.{Event}
use Rattle.sched.specs.declared.event.Outcome.{Outcome}
use Rattle.sched.specs.declared.event.Outcome.TheVariants.{Refused, Discarded, Answered, Taken, Told, Done}
use Rattle.sched.specs.History.{History, Then, Open, port_of, opened_by, opened}
use Rattle.sched.specs.Looking.{Node, staged_by, staging, entries}
use Rattle.sched.specs.Worlds.{PortValue, WorldValue, IsPortOf, ArePortsOf, IsWorldOf}
use Rattle.lemmas.proofs.Places.{at_other}

-- ---- lists of which one element was written

pub at_written : {A : Type 0} (xs : List A) (k j : ℕ) (old new x : A) → slice_get xs k ≡ Some old → j ≡ k → slice_get (set xs k new) j ≡ Some x → x ≡ new
at_written xs k j old new x there here found =
    sym (get_or_from_slice_get (set xs k new) j x old found) ∙ get_or-set_at xs k j new old here (slice_get_within xs k old there)

-- ---- ports

-- a port of which the history says the same
port_same : (n : Node) (port : ℕ) (s t : Staged) (last now : Option Open) (old new : ℕ → List EntryValue) (p : PortValue) → t ≡ s → now ≡ last
    → ((k : ℕ) → length (numbers_of port (new k)) ≡ length (numbers_of port (old k))) → IsPortOf n port s last old p → IsPortOf n port t now new p
port_same n port s t last now old new p staged_is open_is numbers is =
    rw (staged_is, open_is) (record {
      staging_is = is.staging_is;
      judging = is.judging;
      count = is.count;
      shares = λ k share there. let with = is.shares k share there in record { holder = with.holder; next = with.next ∙ sym (numbers k) };
    })

-- at another port than the event's nothing changes
elsewhere_staging : (n : Node) (h : History) (event : Event) (outcome : Outcome) (port : ℕ) → (port_of event == port) ≡ false → staging n (Then h event outcome) port ≡ staging n h port
elsewhere_staging n h event outcome port e = rw e refl

elsewhere_opened : (h : History) (event : Event) (outcome : Outcome) (port : ℕ) → (port_of event == port) ≡ false → opened (Then h event outcome) port ≡ opened h port
elsewhere_opened h event outcome port e = rw e refl

here_staging : (n : Node) (h : History) (event : Event) (outcome : Outcome) (port : ℕ) → (port_of event == port) ≡ true → staging n (Then h event outcome) port ≡ staged_by n (opened h port) outcome (staging n h port)
here_staging n h event outcome port e = rw e refl

here_opened : (h : History) (event : Event) (outcome : Outcome) (port : ℕ) → (port_of event == port) ≡ true → opened (Then h event outcome) port ≡ opened_by h (opened h port) event outcome
here_opened h event outcome port e = rw e refl

-- a port after an event of its own, by what it had and what the event came to
abbrev pub IsPortAfter : Node → History → Event → Outcome → (port : ℕ) → PortValue → Type 0
IsPortAfter n h event outcome port p =
    IsPortOf n port (staged_by n (opened h port) outcome (staging n h port)) (opened_by h (opened h port) event outcome) (entries n (Then h event outcome)) p

-- each other port has as many entries as before
abbrev pub OthersKeepCounts : Node → History → Event → Outcome → Type 0
OthersKeepCounts n h event outcome = (port k : ℕ) → (port_of event == port) ≡ false
    → length (numbers_of port (entries n (Then h event outcome) k)) ≡ length (numbers_of port (entries n h k))

-- the port of an event, after it
own_port : (n : Node) (h : History) (event : Event) (outcome : Outcome) (port : ℕ) (p : PortValue) → (port_of event == port) ≡ true
    → IsPortAfter n h event outcome port p → IsPortOf n port (staging n (Then h event outcome) port) (opened (Then h event outcome) port) (entries n (Then h event outcome)) p
own_port n h event outcome port p own is =
    port_same n port _ (staging n (Then h event outcome) port) _ (opened (Then h event outcome) port) (entries n (Then h event outcome)) (entries n (Then h event outcome)) p
    (here_staging n h event outcome port own) (here_opened h event outcome port own) (λ k. refl) is

-- a port after an event of another
other_port : (n : Node) (h : History) (event : Event) (outcome : Outcome) (port : ℕ) (p : PortValue) → (port_of event == port) ≡ false → OthersKeepCounts n h event outcome
    → IsPortOf n port (staging n h port) (opened h port) (entries n h) p → IsPortOf n port (staging n (Then h event outcome) port) (opened (Then h event outcome) port) (entries n (Then h event outcome)) p
other_port n h event outcome port p other counts is =
    port_same n port (staging n h port) (staging n (Then h event outcome) port) (opened h port) (opened (Then h event outcome) port) (entries n h) (entries n (Then h event outcome)) p
    (elsewhere_staging n h event outcome port other) (elsewhere_opened h event outcome port other) (λ k. counts port k other) is

port_by : (n : Node) (h : History) (event : Event) (outcome : Outcome) (ports : List PortValue) (old new : PortValue) → slice_get ports (port_of event) ≡ Some old
    → IsPortAfter n h event outcome (port_of event) new → OthersKeepCounts n h event outcome → ArePortsOf n h ports
    → (port : ℕ) (p : PortValue) → slice_get (set ports (port_of event) new) port ≡ Some p → (own : Bool) → (port_of event == port) ≡ own
    → IsPortOf n port (staging n (Then h event outcome) port) (opened (Then h event outcome) port) (entries n (Then h event outcome)) p
port_by n h event outcome ports old new there is counts all port p found true own =
    let same = eqb-true (port_of event) port own in
    let written = at_written ports (port_of event) port old new p there (sym same) found in
    let mine = subst (λ (q : ℕ). IsPortAfter n h event outcome q new) same is in
    own_port n h event outcome port p own (subst (λ (v : PortValue). IsPortAfter n h event outcome port v) (sym written) mine)
port_by n h event outcome ports old new there is counts all port p found false own =
    let before = at_other ports (port_of event) port new p (λ e. eqb-false (port_of event) port own (sym e)) found in
    other_port n h event outcome port p own counts (all.each port p before)

-- ports of which that of the event was written
pub ports_changed : (n : Node) (h : History) (event : Event) (outcome : Outcome) (ports : List PortValue) (old new : PortValue) → slice_get ports (port_of event) ≡ Some old
    → IsPortAfter n h event outcome (port_of event) new → OthersKeepCounts n h event outcome → ArePortsOf n h ports
    → ArePortsOf n (Then h event outcome) (slice_set ports (port_of event) new)
ports_changed n h event outcome ports old new there is counts all = record {
  count = length-set ports (port_of event) new ∙ all.count;
  each = λ port p found. port_by n h event outcome ports old new there is counts all port p found (port_of event == port) refl;
}

-- ---- what leaves all as it was

-- the outcome of an event that leaves all as it was
abbrev pub LeavesAll : Outcome → Type 0
LeavesAll Refused = Unit {0}
LeavesAll (Discarded discard) = Unit {0}
LeavesAll (Answered status reply) = Unit {0}
LeavesAll (Taken generation) = ⊥
LeavesAll (Told reported) = ⊥
LeavesAll (Done status reply loaded) = ⊥

cond_same : {A : Type 0} (b : Bool) (x y : A) → y ≡ x → cond b y x ≡ x
cond_same true x y e = e
cond_same false x y e = refl

-- ports of which the history says nothing new
ports_same : (n : Node) (h : History) (event : Event) (outcome : Outcome) (ports : List PortValue)
    → ((port : ℕ) → staged_by n (opened h port) outcome (staging n h port) ≡ staging n h port) → ((port : ℕ) → opened_by h (opened h port) event outcome ≡ opened h port)
    → ((port k : ℕ) → length (numbers_of port (entries n (Then h event outcome) k)) ≡ length (numbers_of port (entries n h k)))
    → ArePortsOf n h ports → ArePortsOf n (Then h event outcome) ports
ports_same n h event outcome ports stagings opens counts all = record {
  count = all.count;
  each = λ port p there. port_same n port (staging n h port) (staging n (Then h event outcome) port) (opened h port) (opened (Then h event outcome) port) (entries n h) (entries n (Then h event outcome)) p
      (cond_same (port_of event == port) _ _ (stagings port)) (cond_same (port_of event == port) _ _ (opens port)) (counts port) (all.each port p there);
}

-- such an outcome leaves the world that of the history
pub left_all : (n : Node) (h : History) (event : Event) (outcome : Outcome) (w : WorldValue) → LeavesAll outcome → IsWorldOf n h w → IsWorldOf n (Then h event outcome) w
left_all n h event Refused w leaves is = record {
  windows_are = is.windows_are;
  sizes_are = is.sizes_are;
  banks_are = is.banks_are;
  words_are = is.words_are;
  programs_are = is.programs_are;
  count_is = is.count_is;
  ports_are = ports_same n h event Refused w.ports (λ port. refl) (λ port. refl) (λ port k. refl) is.ports_are;
}
left_all n h event (Discarded discard) w leaves is = record {
  windows_are = is.windows_are;
  sizes_are = is.sizes_are;
  banks_are = is.banks_are;
  words_are = is.words_are;
  programs_are = is.programs_are;
  count_is = is.count_is;
  ports_are = ports_same n h event (Discarded discard) w.ports (λ port. refl) (λ port. refl) (λ port k. refl) is.ports_are;
}
left_all n h event (Answered status reply) w leaves is = record {
  windows_are = is.windows_are;
  sizes_are = is.sizes_are;
  banks_are = is.banks_are;
  words_are = is.words_are;
  programs_are = is.programs_are;
  count_is = is.count_is;
  ports_are = ports_same n h event (Answered status reply) w.ports (λ port. refl) (λ port. refl) (λ port k. refl) is.ports_are;
}
left_all n h event (Taken generation) w leaves is = absurd leaves
left_all n h event (Told reported) w leaves is = absurd leaves
left_all n h event (Done status reply loaded) w leaves is = absurd leaves
