-- Each command that is done in the history of threads was judged once.
use Rattle.std.proofs.Common.{◌==◌, ◌<◌, ℕ, Bool, true, false, List, [], ◌∷◌, ◌++◌, refl, sym, subst, inl, inr}
use Rattle.std.specs.Prelude.{All, if◌then◌else◌}
use Rattle.std.proofs.lemmas.Bool.{cases_lt}
use Rattle.std.proofs.lemmas.List.Elements.{All-head, All-tail}
use Rattle.spw.specs.Cargo.{Cargo}
use Rattle.rmap.specs.declared.places.Place.{Place}
use Rattle.rmap.specs.declared.places.Place.TheVariants as places
use Rattle.machine.specs.declared.calls.Call.{Call}
use Rattle.machine.specs.declared.helpers.Helper.{Helper}
use Rattle.machine.specs.declared.helpers.Helper.TheVariants as helpers
use Rattle.ports.specs.Due.{Deed}
use Rattle.ports.specs.Due.Deed.{Dropped, Answered as Replied, Judged}
use Rattle.sched.specs.Answers.{answering}
use Rattle.sched.specs.declared.event.Event.{Event}
use Rattle.sched.specs.declared.event.Event.TheVariants.{Take}
use Rattle.sched.specs.declared.event.Outcome.{Outcome}
use Rattle.sched.specs.declared.event.Outcome.TheVariants.{Refused, Discarded, Answered, Taken, Told, Done}
use Rattle.sched.specs.Headline.{AreJudgedOnce, BringsBytes, EveryHistoryJudgesOnce, HasBytes, IsJudgedOnceIfDone, IsNode}
use Rattle.sched.specs.History.{History, Start, Then, port_of}
use Rattle.sched.specs.Lawful.{IsLawfulExceptAnswers}
use Rattle.sched.specs.Looking.{Node}
use Rattle.lawful.specs.Happenings.{Happening, HappenBy, HappensBy, ending, happened_at, happening, answered_calls}
use Rattle.lawful.specs.Once.{ThreadsJudgeOnce}
use Rattle.lawful.specs.Together.{ThreadsAreLawful}
use Rattle.lawful.proofs.Keeping.{happened_here}

-- the bytes of a packet
abbrev AreBytes : Cargo → Type 0
AreBytes p = All (λ byte. byte < 256) p.bytes

-- what happened brings packets that have only bytes
abbrev AllBring : List Happening → Type 0
AllBring [] = Unit {0}
AllBring (x ∷ xs) = BringsBytes x.event × AllBring xs

bring_append : (xs ys : List Happening) → AllBring xs → AllBring ys → AllBring (xs ++ ys)
bring_append [] ys a b = b
bring_append (x ∷ xs) ys a b = (a.0, bring_append xs ys a.1 b)

bring_front : (xs ys : List Happening) → AllBring (xs ++ ys) → AllBring xs
bring_front [] ys a = tt
bring_front (x ∷ xs) ys a = (a.0, bring_front xs ys a.1)

bring_last : (xs : List Happening) (x : Happening) → AllBring (xs ++ x ∷ []) → BringsBytes x.event
bring_last [] x a = a.0
bring_last (y ∷ xs) x a = bring_last xs x a.1

-- ---- what became of packets

answering_brings : (helper : Helper) (port : ℕ) → BringsBytes (answering helper port)
answering_brings helpers.Count port = tt
answering_brings helpers.Ticket port = tt
answering_brings helpers.Peak port = tt

ending_brings : (place : Place) (port : ℕ) → BringsBytes (ending place port)
ending_brings (places.Bank k) port = tt
ending_brings places.Staging port = tt
ending_brings places.LoadResult port = tt
ending_brings places.Control port = tt

answered_bring : (port : ℕ) (calls : List Call) → AllBring (answered_calls port calls)
answered_bring port [] = tt
answered_bring port (c ∷ calls) = (answering_brings c.question.helper port, answered_bring port calls)

thus : (d : Deed) (port : ℕ) (p : Cargo) (happened : List Happening) → AreBytes p → HappensBy d port p happened → AllBring happened
thus Dropped port p happened bytes is = subst AllBring (sym is.1) (bytes, tt)
thus (Replied reply) port p happened bytes is = subst AllBring (sym is.1) (bytes, tt)
thus (Judged j) port p happened bytes is =
    let taken : List Happening = happening (Take port p) (Taken j.judged.generation) ∷ answered_calls port j.calls in
    let done : List Happening = happening (ending j.judged.place port) (Done is.status j.reply is.loaded) ∷ [] in
    let taken_bring : AllBring taken = (bytes, answered_bring port j.calls) in
    let done_bring : AllBring done = (ending_brings j.judged.place port, tt) in
    subst AllBring (sym is.is) (bring_append taken done taken_bring done_bring)

all_thus : (port : ℕ) (ps : List Cargo) (ds : List Deed) (happened : List Happening) → All AreBytes ps → HappenBy port ps ds happened → AllBring happened
all_thus port [] [] happened bytes is = subst AllBring (sym is) tt
all_thus port [] (d ∷ ds) happened bytes is = absurd is
all_thus port (p ∷ ps) [] happened bytes is = absurd is
all_thus port (p ∷ ps) (d ∷ ds) happened bytes is =
    subst AllBring (sym is.2) (bring_append is.0 is.1 (thus d port p is.0 (All-head AreBytes p ps bytes) is.3) (all_thus port ps ds is.1 (All-tail AreBytes p ps bytes) is.4))

-- ---- a whole history

has_bytes : (h : History) → ((q : ℕ) → AllBring (happened_at q h)) → HasBytes h
has_bytes Start all = tt
has_bytes (Then h e o) all =
    (has_bytes h (λ q. rest q (port_of e == q) (all q)), bring_last (happened_at (port_of e) h) (happening e o) (subst AllBring (happened_here h e o (port_of e) refl) (all (port_of e))))
  where
    rest : (q : ℕ) (own : Bool) → AllBring (if own then happened_at q h ++ happening e o ∷ [] else happened_at q h) → AllBring (happened_at q h)
    rest q true bring = bring_front (happened_at q h) (happening e o ∷ []) bring
    rest q false bring = bring

once_if_done : EveryHistoryJudgesOnce → (n : Node) (h : History) (e : Event) (o : Outcome) → IsNode n → HasBytes h → IsLawfulExceptAnswers n (Then h e o) → IsJudgedOnceIfDone n h e o
once_if_done law n h e Refused node bytes lawful = tt
once_if_done law n h e (Discarded discard) node bytes lawful = tt
once_if_done law n h e (Answered status reply) node bytes lawful = tt
once_if_done law n h e (Taken generation) node bytes lawful = tt
once_if_done law n h e (Told reported) node bytes lawful = tt
once_if_done law n h e (Done status reply loaded) node bytes lawful = law n h e status reply loaded node bytes lawful

all_once : EveryHistoryJudgesOnce → (n : Node) (h : History) → IsNode n → HasBytes h → IsLawfulExceptAnswers n h → AreJudgedOnce n h
all_once law n Start node bytes lawful = tt
all_once law n (Then h e o) node bytes lawful = (all_once law n h node bytes.0 lawful.0, once_if_done law n h e o node bytes.0 lawful)

pub threads_judge_once : ThreadsAreLawful → EveryHistoryJudgesOnce → ThreadsJudgeOnce
threads_judge_once threads law = λ n accounts whole node bytes served.
    let it = threads n accounts whole served in (
      it,
      all_once law n it.history node
          (has_bytes it.history (λ q. elim (cases_lt q n.ports) [
            | inl there ↦ all_thus q (accounts q).packets (accounts q).deeds (happened_at q it.history) (bytes q there) (it.happened q there)
            | inr past ↦ subst AllBring (sym (it.elsewhere q past)) tt
          ]))
          it.lawful,
    )
