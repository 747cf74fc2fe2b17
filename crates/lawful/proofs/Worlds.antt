-- All ports of a node at a place of its list: what looking back finds there, and how far each port is.
use Rattle.std.proofs.Common.{◌≡◌, ◌+◌, ◌<◌, ◌≤◌, ◌⊎◌, ℕ, Bool, true, false, List, [], ◌∷◌, ◌++◌, length, Option, Some, None, ◌∙◌, inl, inr, arith}
use Rattle.std.specs.Prelude.{slice_get}
use mathlib.Core.List.{IsPrefix}
use Rattle.spw.specs.Cargo.{Cargo}
use Rattle.rmap.specs.declared.status.Status.{Status}
use Rattle.brun.specs.declared.turns.Turn.TheVariants as turns
use Rattle.node_programs.specs.declared.publishes.Publish.{Publish}
use Rattle.node_programs.specs.Staged.{Staged}
use Rattle.node_parts.specs.declared.config.BankConfig.{BankConfig}
use Rattle.annals.specs.declared.deed.HistoryEntry.{HistoryEntry}
use Rattle.annals.specs.Banks.{entries_of}
use Rattle.annals.specs.Chains.{done_for, instrument}
use Rattle.annals.specs.Publishes.{publishes_of}
use Rattle.annals.specs.Shown.{shown_in, shown_of}
use Rattle.ports.specs.Due.{Deed, IsJudgedInRun, Judging, Standing, Worked, stand}
use Rattle.ports.specs.Due.Deed.{Dropped, Answered, Judged}
use Rattle.sched.specs.declared.event.Outcome.TheVariants.{Done}
use Rattle.sched.specs.History.{History, Start, Open, opened}
use Rattle.sched.specs.Looking.{Node, entries, place_in, published, publishes, staging, turn_of, windows_in}
use Rattle.sched.specs.Turns.{answers_of_calls}
use Rattle.lawful.specs.Alone.{AreDealtInFull, IsJudgedInFull}
use Rattle.sched.specs.Lawful.{IsLawfulExceptAnswers}
use Rattle.lawful.specs.Happenings.{Happening, HappenBy, ending, happened_at, happening}
use Rattle.lawful.specs.Together.{Account}
use Rattle.lawful.proofs.Placing.{AreLoadsPlaced}
use Rattle.lawful.proofs.Accounts.{HasActed, IsFrom, LeavesEntry, PublishesOne, entry_acted}
use Rattle.lawful.proofs.Alone.{worked_front}
use Rattle.lawful.proofs.Entering.{IsDoneAt, asks_one, done_at}
use Rattle.lawful.proofs.Idling.{IsKnown}
use Rattle.lawful.proofs.Keeping.{StaysElsewhere}
use Rattle.lawful.proofs.Reporting.{asking}
use Rattle.lemmas.proofs.Prefixes.{prefix_trans}

-- ---- what looking back finds

-- nothing was published except what the node begins with
pub record IsUnpublished (n : Node) (h : History) : Type 0 where
  pub programs : (slot : ℕ) → published n h slot ≡ published n Start slot
  pub count : publishes n h ≡ length n.firsts

-- nothing happened at a port that the node does not have
pub record IsNowhere (h : History) (q : ℕ) : Type 0 where
  pub nothing : happened_at q h ≡ []
  pub closed : opened h q ≡ None

-- what looking back finds of the programs and of the banks is what the list has up to there
pub record IsCommon (n : Node) (pre : List HistoryEntry) (h : History) : Type 0 where
  pub lawful : IsLawfulExceptAnswers n h
  pub known : length n.firsts < shown_in pre → IsKnown n h (shown_of pre)
  pub fresh : shown_in pre ≤ length n.firsts → IsUnpublished n h
  pub banks : (k : ℕ) (bank : BankConfig) → slice_get n.banks k ≡ Some bank → entries n h k ≡ entries_of k pre
  pub nowhere : (q : ℕ) → n.ports ≤ q → IsNowhere h q

-- what looking back finds at a port: the command that is open, the staging, and what happened
pub record IsSeenAt (n : Node) (q : ℕ) (h : History) (o : Option Open) (st : Staged) (hs : List Happening) : Type 0 where
  pub command : opened h q ≡ o
  pub staging_is : staging n h q ≡ st
  pub happened : happened_at q h ≡ hs

seen_moved : (n : Node) (p q : ℕ) (h after : History) (o : Option Open) (st : Staged) (hs : List Happening) → StaysElsewhere n p h after → (q ≡ p → ⊥) → IsSeenAt n q h o st hs → IsSeenAt n q after o st hs
seen_moved n p q h after o st hs stays other here = record {
  command = stays.commands q other ∙ here.command;
  staging_is = stays.stagings q other ∙ here.staging_is;
  happened = stays.nothing q other ∙ here.happened;
}

-- ---- how far a port is

-- nothing except a judged command comes first of what is to come
abbrev pub IsStill : List Cargo → List Deed → Type 0
IsStill [] [] = Unit {0}
IsStill [] (d ∷ ds) = ⊥
IsStill (p ∷ ps) [] = ⊥
IsStill (p ∷ ps) (Dropped ∷ ds) = ⊥
IsStill (p ∷ ps) (Answered reply ∷ ds) = ⊥
IsStill (p ∷ ps) (Judged j ∷ ds) = Unit {0}

-- a port before all that it does at a place of the list, or after all of that
abbrev pub IsStillIf : Bool → List Cargo → List Deed → Type 0
IsStillIf true ps ds = IsStill ps ds
IsStillIf false ps ds = Unit {0}

-- the place from which on its next command is taken
abbrev pub place_from : Bool → List HistoryEntry → ℕ
place_from true pre = length pre + 1
place_from false pre = length pre

-- what is said of a port at each place: its number, its windows, and that it knows the programs that the node begins with
pub record IsOf (n : Node) (q : ℕ) (s : Standing) : Type 0 where
  pub port_is : s.pass.port ≡ q
  pub windows : s.pass.windows ≡ windows_in n
  pub some : length n.firsts < length s.pass.programs

-- no command is open at the port, and those packets are to come
pub record IsIdleBy (n : Node) (whole : List HistoryEntry) (q : ℕ) (a : Account) (still : Bool) (pre : List HistoryEntry) (h : History) (s : Standing) (ps : List Cargo) (ds : List Deed) : Type 0 where
  pub worked : Worked s ps ds a.last
  pub full : AreDealtInFull n s ps ds a.last worked
  pub placed : AreLoadsPlaced q whole s ps ds a.last worked
  pub from : IsFrom (place_from still pre) s a.last ps ds worked
  pub still_is : IsStillIf still ps ds
  pub mine : IsOf n q s
  pub happened : List Happening
  pub here : IsSeenAt n q h None s.pass.staging happened
  pub acts : length (done_for q pre) ≡ length s.asked
  pub so_far : (rest : List Happening) → HappenBy q ps ds rest → HappenBy q a.packets a.deeds (happened ++ rest)

pub record IsIdleAt (n : Node) (whole : List HistoryEntry) (q : ℕ) (a : Account) (still : Bool) (pre : List HistoryEntry) (h : History) : Type 0 where
  pub s : Standing
  pub ps : List Cargo
  pub ds : List Deed
  pub idle : IsIdleBy n whole q a still pre h s ps ds

-- a command of the port was taken, and its program has its verdict
pub record IsOpen (n : Node) (whole : List HistoryEntry) (q : ℕ) (a : Account) : Type 0 where
  pub s : Standing
  pub after : Standing
  pub p : Cargo
  pub j : Judging
  pub is : IsJudgedInRun j p s after
  pub full_here : IsJudgedInFull s after j
  pub ps : List Cargo
  pub ds : List Deed
  pub worked : Worked after ps ds a.last
  pub full : AreDealtInFull n after ps ds a.last worked
  pub placed : AreLoadsPlaced q whole after ps ds a.last worked
  pub mine : IsOf n q s
  pub before : History
  pub stands : turn_of n q (asking p j.judged.generation before (answers_of_calls j.calls)) ≡ Some (turns.Verdict j.judged.verdict)
  pub lies : place_in n p ≡ Some j.judged.place
  pub happened : List Happening
  pub so_far : (status : Status) (loaded : Option (List ℕ)) (rest : List Happening) → HappenBy q ps ds rest
      → HappenBy q a.packets a.deeds (happened ++ (happening (ending j.judged.place q) (Done status j.reply loaded) ∷ rest))

-- the command that is open
abbrev pub command_in : (n : Node) (whole : List HistoryEntry) (q : ℕ) (a : Account) → IsOpen n whole q a → Open
command_in n whole q a x = asking x.p x.j.judged.generation x.before (answers_of_calls x.j.calls)

-- what looking back finds of it
abbrev pub IsOpenNow : (n : Node) (whole : List HistoryEntry) (q : ℕ) (a : Account) (h : History) → IsOpen n whole q a → Type 0
IsOpenNow n whole q a h x = IsSeenAt n q h (Some (command_in n whole q a x)) x.s.pass.staging x.happened

-- where the command's entry is, by what it left
abbrev pub entry_at : (n : Node) (whole : List HistoryEntry) (q : ℕ) (a : Account) (x : IsOpen n whole q a) (entry : LeavesEntry x.j x.p x.s x.after x.is) → IsDoneAt entry.banked.number x.j (stand x.is.between x.s.asked x.is.reached) x.after
entry_at n whole q a x entry = done_at entry.banked.number x.j (stand x.is.between x.s.asked x.is.reached) x.after entry.banked entry.banked.place entry.left

-- all that the port knows when it ended is in the list
pub front_open : (n : Node) (whole : List HistoryEntry) (q : ℕ) (a : Account) (x : IsOpen n whole q a) → IsPrefix a.last.front whole → IsPrefix x.after.front whole
front_open n whole q a x begins = prefix_trans x.after.front a.last.front whole (worked_front x.after a.last x.ps x.ds x.worked) begins

-- the entry, as an act of the port
abbrev pub enter_acted : (n : Node) (whole : List HistoryEntry) (q : ℕ) (a : Account) (x : IsOpen n whole q a) → LeavesEntry x.j x.p x.s x.after x.is → IsPrefix x.after.front whole → HasActed q whole x.j x.p x.s x.after x.is
enter_acted n whole q a x entry front =
    entry_acted q entry.banked.number whole x.j x.p x.s x.after x.is (entry_at n whole q a x entry) x.mine.port_is front (asks_one x.j (stand x.is.between x.s.asked x.is.reached) x.after entry.banked entry.left)

-- its entry is to come
pub record IsToEnter (n : Node) (whole : List HistoryEntry) (q : ℕ) (a : Account) (pre : List HistoryEntry) (h : History) : Type 0 where
  pub open_at : IsOpen n whole q a
  pub here : IsOpenNow n whole q a h open_at
  pub acts : length (done_for q pre) ≡ length open_at.s.asked
  pub entry : LeavesEntry open_at.j open_at.p open_at.s open_at.after open_at.is
  pub place : length pre ≤ length (entry_at n whole q a open_at entry).before

-- its publish is to come
pub record IsToPublish (n : Node) (whole : List HistoryEntry) (q : ℕ) (a : Account) (pre : List HistoryEntry) (h : History) : Type 0 where
  pub open_at : IsOpen n whole q a
  pub here : IsOpenNow n whole q a h open_at
  pub acts : length (done_for q pre) ≡ length open_at.s.asked
  pub one : PublishesOne q whole open_at.j open_at.p open_at.s open_at.after open_at.is
  pub place : length pre ≤ length one.placed.before

-- its publish is in the list, and readers do not see it yet
pub record IsToShow (n : Node) (whole : List HistoryEntry) (q : ℕ) (a : Account) (pre : List HistoryEntry) (h : History) : Type 0 where
  pub open_at : IsOpen n whole q a
  pub here : IsOpenNow n whole q a h open_at
  pub acts : length (done_for q pre) ≡ length open_at.s.asked + 1
  pub one : PublishesOne q whole open_at.j open_at.p open_at.s open_at.after open_at.is
  pub place : length one.placed.before < length pre
  pub unseen : shown_in pre ≤ length one.windowed.old

abbrev pub IsPortAt : (n : Node) (whole : List HistoryEntry) (q : ℕ) (a : Account) (still : Bool) (pre : List HistoryEntry) (h : History) → Type 0
IsPortAt n whole q a still pre h =
    IsIdleAt n whole q a still pre h ⊎ (IsToEnter n whole q a pre h ⊎ (IsToPublish n whole q a pre h ⊎ IsToShow n whole q a pre h))

-- the number of the program for which the port waits until readers see it
abbrev pub waits_for : (n : Node) (whole : List HistoryEntry) (q : ℕ) (a : Account) (still : Bool) (pre : List HistoryEntry) (h : History) → IsPortAt n whole q a still pre h → Option ℕ
waits_for n whole q a still pre h (inl x) = None
waits_for n whole q a still pre h (inr (inl x)) = None
waits_for n whole q a still pre h (inr (inr (inl x))) = None
waits_for n whole q a still pre h (inr (inr (inr x))) = Some (length x.one.windowed.old)

-- a port, and for what it waits
pub record IsPort (n : Node) (whole : List HistoryEntry) (q : ℕ) (a : Account) (still : Bool) (pre : List HistoryEntry) (h : History) (wait : Option ℕ) : Type 0 where
  pub at : IsPortAt n whole q a still pre h
  pub wait_is : waits_for n whole q a still pre h at ≡ wait

-- ---- what other ports do

pub port_moved : (n : Node) (whole : List HistoryEntry) (p q : ℕ) (a : Account) (still : Bool) (pre : List HistoryEntry) (h after : History) (wait : Option ℕ) → StaysElsewhere n p h after → (q ≡ p → ⊥)
    → IsPort n whole q a still pre h wait → IsPort n whole q a still pre after wait
port_moved n whole p q a still pre h after wait stays other port = by port.at port.wait_is
  where
    by : (at : IsPortAt n whole q a still pre h) → waits_for n whole q a still pre h at ≡ wait → IsPort n whole q a still pre after wait
    by (inl x) is = record {
      at = inl (record {
        s = x.s;
        ps = x.ps;
        ds = x.ds;
        idle = record {
          worked = x.idle.worked;
          full = x.idle.full;
          placed = x.idle.placed;
          from = x.idle.from;
          still_is = x.idle.still_is;
          mine = x.idle.mine;
          happened = x.idle.happened;
          here = seen_moved n p q h after None x.s.pass.staging x.idle.happened stays other x.idle.here;
          acts = x.idle.acts;
          so_far = x.idle.so_far;
        };
      });
      wait_is = is;
    }
    by (inr (inl x)) is = record {
      at = inr (inl (record {
        open_at = x.open_at;
        here = seen_moved n p q h after (Some (command_in n whole q a x.open_at)) x.open_at.s.pass.staging x.open_at.happened stays other x.here;
        acts = x.acts;
        entry = x.entry;
        place = x.place;
      }));
      wait_is = is;
    }
    by (inr (inr (inl x))) is = record {
      at = inr (inr (inl (record {
        open_at = x.open_at;
        here = seen_moved n p q h after (Some (command_in n whole q a x.open_at)) x.open_at.s.pass.staging x.open_at.happened stays other x.here;
        acts = x.acts;
        one = x.one;
        place = x.place;
      })));
      wait_is = is;
    }
    by (inr (inr (inr x))) is = record {
      at = inr (inr (inr (record {
        open_at = x.open_at;
        here = seen_moved n p q h after (Some (command_in n whole q a x.open_at)) x.open_at.s.pass.staging x.open_at.happened stays other x.here;
        acts = x.acts;
        one = x.one;
        place = x.place;
        unseen = x.unseen;
      })));
      wait_is = is;
    }

-- nothing happened at a port that the node does not have
pub nowhere_moved : (n : Node) (p : ℕ) (h after : History) → p < n.ports → StaysElsewhere n p h after → ((q : ℕ) → n.ports ≤ q → IsNowhere h q) → (q : ℕ) → n.ports ≤ q → IsNowhere after q
nowhere_moved n p h after there stays nowhere q past =
    let other : q ≡ p → ⊥ = λ same. absurd (omega (arith, there, past, same)) in
    let was = nowhere q past in
    record { nothing = stays.nothing q other ∙ was.nothing; closed = stays.commands q other ∙ was.closed }

-- ---- all of it

-- that port waits for the program of that number
pub record IsWaiting (n : Node) (waits : ℕ → Option ℕ) (number : ℕ) : Type 0 where
  pub port : ℕ
  pub there : port < n.ports
  pub is : waits port ≡ Some number

-- first the instrument published those, and it did nothing else
pub record IsBegun (firsts : List Publish) (pre : List HistoryEntry) : Type 0 where
  pub programs : IsPrefix firsts (publishes_of pre)
  pub did : length (done_for instrument pre) ≡ length firsts

-- only the instrument published: the first of those, and it did nothing else
pub record IsBeginning (firsts : List Publish) (pre : List HistoryEntry) : Type 0 where
  pub programs : IsPrefix (publishes_of pre) firsts
  pub did : length (done_for instrument pre) ≡ length (publishes_of pre)

pub record IsWorld (n : Node) (accounts : ℕ → Account) (whole : List HistoryEntry) (firsts : List Publish) (still : Bool) (pre : List HistoryEntry) (h : History) (waits : ℕ → Option ℕ) : Type 0 where
  pub common : IsCommon n pre h
  pub ports : (q : ℕ) → q < n.ports → IsPort n whole q (accounts q) still pre h (waits q)
  pub pending : (number : ℕ) → shown_in pre ≤ number → number < length (publishes_of pre) → length n.firsts < number → IsWaiting n waits number
  pub opening : IsBeginning firsts pre ⊎ IsBegun firsts pre
