-- Workers that came back from their threads.
use Rattle.std.proofs.Common.{◌≡◌, ◌+◌, ◌-◌, ◌<◌, ◌≤◌, ℕ, zero, suc, List, [], ◌∷◌, ◌++◌, Option, None, Some, refl, sym, ap, ◌∙◌, subst, ⊎_elim, inl, inr, arith}
use Rattle.std.specs.Prelude.{map, length, slice_index_or}
use Rattle.std.proofs.lemmas.Bool.{cases_lt}
use Rattle.std.proofs.lemmas.List.{get_or-map, get_or_append_left, get_or-append-add, length-append, length-map}
use Rattle.std.specs.List.{All}
use Rattle.std.proofs.lemmas.List.Elements.{All-append, All-cons, All-nil}
use mathlib.Core.List.{IsPrefix}
use Rattle.annals.specs.declared.deed.HistoryEntry.{HistoryEntry}
use Rattle.annals.specs.Chains.{ActsGrow, done_for}
use Rattle.annals.specs.Publishes.{EntriesAreNoLoads, LoadsAreListed}
use Rattle.target.specs.Passes.{PortPass}
use Rattle.lemmas.proofs.Prefixes.{prefix_trans}
use Rattle.ports.proofs.Loading.{publishes_are_all}
use Rattle.ports.proofs.Whole.{entries_are_all}
use Rattle.ports.specs.Worked.{standing_of}
use Rattle.ports.specs.Queue.{IsServePassOf, IsServePassAfter}
use Rattle.ports.specs.declared.port.Port.{Port}
use Rattle.ports.specs.declared.port.ServePass.{ServePass}
use Rattle.ports.specs.declared.starts.Ended.{Ended}
use Rattle.ports.specs.declared.worker.Worker.{Worker}
use Rattle.ports.specs.declared.worker.Report.{Report}
use Rattle.ports.specs.Sinks.{SentReply}
use Rattle.ports.specs.Serves.{IsWorkerOf, AreLast, AreServed, HasReturned, HaveComeBack, IsBack, IsOneMissing, IsShort, IsWorkerInformed, IsTotalOf, HaveServed, ShareOneHistory}

-- A pass that is the port's is so later.
same_port : (port : Port) (old new : ServePass) → IsServePassOf port old → IsServePassAfter old new → IsServePassOf port new
same_port port old new of after = ((after.0.0 ∙ of.0.0, after.0.2 ∙ of.0.1), after.1)

-- the place of a report that is missing
missing_at : (reported : List (Option Report)) → IsOneMissing reported → (k : ℕ) × (k < length reported) × ((other : Option Report) → slice_index_or reported k other ≡ None)
missing_at [] missing = absurd missing
missing_at (None ∷ reported) missing = (0, omega arith, λ other. refl)
missing_at (Some report ∷ reported) missing = let (k, low, none) = missing_at reported missing in (suc k, omega (arith, low), none)

module _ {J S : Type 0} (sent : S → List SentReply) (failed : S → ℕ) (banks : ℕ) where
  -- A worker that comes back can serve its port again.
  still : (port : Port) (old new : Worker J S) (report : Option Report) → IsWorkerOf banks port old → IsBack sent failed old new report → IsWorkerOf banks port new
  still port old new None of back = subst (IsWorkerOf banks port) (sym back) of
  still port old new (Some report) of back = record {
    pass = same_port port old.serve_pass new.serve_pass of.pass back.pass;
    shares = back.shares ∙ of.shares;
  }

  module _ (ports : List Port) (old : List (Worker J S)) (ended : List (Ended J S)) (rest : List (Worker J S)) where
    -- the workers that the threads gave back
    abbrev pub returned : List (Worker J S)
    returned = map (λ (e : Ended J S). e.worker) ended

    -- each thread gave its worker back
    abbrev pub AreBack : Type 0
    AreBack = (k : ℕ) (end : Ended J S) (worker : Worker J S) → k < length ended → IsBack sent failed (slice_index_or old k worker) (slice_index_or ended k end).worker (slice_index_or ended k end).report

    -- If none is missing, the workers can serve their ports again: first those of the threads, then the rest.
    pub can_serve : AreServed banks (length old) ports old → AreBack → AreLast rest old → length (returned ++ rest) ≡ length old → AreServed banks (length old) ports (returned ++ rest)
    can_serve were each (front, old_is) long = record {
      len = were.len;
      each = λ k port worker below.
          let Of : Worker J S → Type 0 = IsWorkerOf banks (slice_index_or ports k port) in
          let here : Of (slice_index_or old k worker) = were.each k port worker below in
          let end : Ended J S = record { worker = worker; report = None } in
          let first : length returned ≡ length ended = length-map ended (λ (e : Ended J S). e.worker) in
          ⊎_elim
          (λ (low : k < length ended).
          subst Of (sym (get_or_append_left returned rest worker k (subst (λ n. k < n) (sym first) low) ∙ get_or-map (λ (e : Ended J S). e.worker) ended k end worker low))
          (still (slice_index_or ports k port) (slice_index_or old k worker) (slice_index_or ended k end).worker (slice_index_or ended k end).report here (each k end worker low)))
          (λ high.
          let i = k - length returned in
          let place : length returned + i ≡ k = omega (arith, first, high) in
          let before : length front ≡ length returned = omega (arith, long, length-append returned rest, length-append front rest, ap length old_is) in
          subst Of
          (ap (λ l. slice_index_or l k worker) old_is ∙ ap (λ n. slice_index_or (front ++ rest) n worker) (sym place ∙ ap (λ n. n + i) (sym before)) ∙ get_or-append-add front rest i worker
          ∙ sym (get_or-append-add returned rest i worker) ∙ ap (λ n. slice_index_or (returned ++ rest) n worker) place)
          here)
          (cases_lt k (length ended));
    }

    -- If each has a report, each served its port.
    pub have_served : AreServed banks (length old) ports old → AreBack → length ended ≡ length old → (total : Report) → IsTotalOf (map (λ (e : Ended J S). e.report) ended) total
        → EntriesAreNoLoads → LoadsAreListed → ShareOneHistory returned → HaveServed sent failed banks ports old returned total
    have_served were each long total reported no_loads listed history =
        let reports = reported.reports in
        let many : length reports ≡ length old = sym (length-map reports Some) ∙ ap length (sym reported.all) ∙ length-map ended (λ (e : Ended J S). e.report) ∙ long in
        let here : (k : ℕ) (w : Worker J S) (r : Report) → k < length old → HasReturned sent failed (slice_index_or old k w) (slice_index_or returned k w) (slice_index_or reports k r)
        = λ k w r below. let end : Ended J S = record { worker = w; report = Some r } in
        let low : k < length ended = subst (λ n. k < n) (sym long) below in
        let report : (slice_index_or ended k end).report ≡ Some (slice_index_or reports k r)
        = sym (get_or-map (λ (x : Ended J S). x.report) ended k end (Some r) low) ∙ ap (λ l. slice_index_or l k (Some r)) reported.all
        ∙ get_or-map Some reports k r (Some r) (subst (λ n. k < n) (sym many) below) in
        subst (λ x. HasReturned sent failed (slice_index_or old k w) x (slice_index_or reports k r)) (sym (get_or-map (λ (x : Ended J S). x.worker) ended k end w low))
        (subst (IsBack sent failed (slice_index_or old k w) (slice_index_or ended k end).worker) report (each k end w low)) in
        record {
          reports = reports;
          reported = many;
          len = length-map ended (λ (e : Ended J S). e.worker) ∙ long;
          each = λ k w r below. (here k w r below).worked;
          served = record {
            len = were.len;
            each = λ k p w below. still (slice_index_or ports k p) (slice_index_or old k w) (slice_index_or returned k w) (Some (slice_index_or reports k total))
                (were.each k p w below) (here k w total below);
          };
          sum = reported.added;
          history = history;
          entries = λ k w r below.
              let it = (here k w r below).worked in
              let low : k < length returned = subst (λ n. k < n) (sym (length-map ended (λ (e : Ended J S). e.worker) ∙ long)) below in
              entries_are_all (standing_of (slice_index_or old k w)) (standing_of (slice_index_or returned k w)) it.packets it.served.deeds history.whole it.served.worked (history.begin k w low) (history.counted k w low);
          publishes = λ k w r below.
              let it = (here k w r below).worked in
              let low : k < length returned = subst (λ n. k < n) (sym (length-map ended (λ (e : Ended J S). e.worker) ∙ long)) below in
              publishes_are_all no_loads listed (standing_of (slice_index_or old k w)) (standing_of (slice_index_or returned k w)) it.packets it.served.deeds history.whole it.served.worked (history.asked k w low);
        }

    -- If a thread could not be made, fewer workers came back than went in.
    pub one_is_gone : length ended + length rest < length old → IsShort old (returned ++ rest)
    one_is_gone fewer =
        let many : length returned ≡ length ended = length-map ended (λ (e : Ended J S). e.worker) in
        inl (omega (arith, many, length-append returned rest, fewer))

    -- If a report is missing, its worker came back as it went in.
    pub one_is_same : AreBack → length ended ≡ length old → IsOneMissing (map (λ (e : Ended J S). e.report) ended) → IsShort old (returned ++ rest)
    one_is_same each long missing =
        let (k, reported, none) = missing_at (map (λ (e : Ended J S). e.report) ended) missing in
        let low : k < length ended = subst (λ n. k < n) (length-map ended (λ (e : Ended J S). e.report)) reported in
        inr (inr (
          k,
          subst (λ n. k < n) long low,
          λ worker.
              let end : Ended J S = record { worker = worker; report = None } in
              let first : length returned ≡ length ended = length-map ended (λ (e : Ended J S). e.worker) in
              let report : (slice_index_or ended k end).report ≡ None = sym (get_or-map (λ (e : Ended J S). e.report) ended k end None low) ∙ none None in
              get_or_append_left returned rest worker k (subst (λ n. k < n) (sym first) low) ∙ get_or-map (λ (e : Ended J S). e.worker) ended k end worker low
              ∙ subst (IsBack sent failed (slice_index_or old k worker) (slice_index_or ended k end).worker) report (each k end worker low),
        ))

    -- If a thread could not be made, the workers of the others came back, and after them the rest, as they went in.
    pub have_come_back : AreBack → AreLast rest old → length ended + length rest ≤ length old → length old ≤ length ended + length rest + 1 → HaveComeBack sent failed old (returned ++ rest)
    have_come_back each last most few =
        let many : length returned ≡ length ended = length-map ended (λ (e : Ended J S). e.worker) in
        let whole : length (returned ++ rest) ≡ length returned + length rest = length-append returned rest in
        record {
          first = returned;
          last = rest;
          all = refl;
          each = λ k worker below.
              let end : Ended J S = record { worker = worker; report = None } in
              let low : k < length ended = subst (λ n. k < n) many below in (
                (slice_index_or ended k end).report,
                subst (λ w. IsBack sent failed (slice_index_or old k worker) w (slice_index_or ended k end).report)
                    (sym (get_or-map (λ (e : Ended J S). e.worker) ended k end worker low)) (each k end worker low),
              );
          rest = last;
          most = omega (arith, many, whole, most);
          few = omega (arith, many, whole, few);
        }

-- One worker more.
pub all_more : {J S : Type 0} (P : Worker J S → Type 0) (workers : List (Worker J S)) (one : Worker J S) → P one → All P workers → All P (workers ++ one ∷ [])
all_more P workers one here all = All-append P workers (one ∷ []) all (All-cons P one [] here (All-nil P))

pub empty_is : {A : Type 0} (xs : List A) → length xs ≡ 0 → xs ≡ []
empty_is [] none = refl
empty_is (x ∷ xs) none = absurd (omega (arith, none))

-- A worker whose pass was asked is as it was.
pub same_worker : {J S : Type 0} (w : Worker J S) (pass : PortPass) → pass ≡ w.pass → record w { pass = pass } ≡ w
same_worker {J} {S} w pass same = ap (λ (x : PortPass). record w { pass = x }) same

-- Of the first threads, what their workers know of the history, and did there, is known.
abbrev pub AreKnownTo : {J S : Type 0} → ℕ → List (Ended J S) → List HistoryEntry → Type 0
AreKnownTo {J} {S} n ended known = (k : ℕ) (e : Ended J S) → k < n → IsWorkerInformed known (slice_index_or ended k e).worker

other_default : {A : Type 0} (xs : List A) (k : ℕ) (d e : A) → k < length xs → slice_index_or xs k d ≡ slice_index_or xs k e
other_default [] k d e below = absurd (omega (arith, below))
other_default (x ∷ xs) zero d e below = refl
other_default (x ∷ xs) (suc k) d e below = other_default xs k d e (omega (arith, below))

-- One more of them.
pub known_more : {J S : Type 0} → ActsGrow → (n : ℕ) (ended : List (Ended J S)) (old new : List HistoryEntry) (d : Ended J S) → n < length ended → IsPrefix old new → IsWorkerInformed new (slice_index_or ended n d).worker
    → AreKnownTo n ended old → AreKnownTo (n + 1) ended new
known_more {J} {S} grow n ended old new d below longer here known = λ k e low.
    ⊎_elim
    (λ (before : k < n).
    let w = (slice_index_or ended k e).worker in
    let was = known k e before in (
      prefix_trans w.front old new was.0 longer,
      prefix_trans w.pass.asked (done_for w.pass.pass.port old) (done_for w.pass.pass.port new) was.1 (grow w.pass.pass.port old new longer),
    ))
    (λ high.
    let same : k ≡ n = omega (arith, low, high) in
    let at : slice_index_or ended k e ≡ slice_index_or ended n d = ap (λ (i : ℕ). slice_index_or ended i e) same ∙ other_default ended n e d below in
    subst (λ (x : Ended J S). IsWorkerInformed new x.worker) (sym at) here)
    (cases_lt k n)

-- If no thread was started, all came back as they went in.
pub all_came_back : {J S : Type 0} (sent : S → List SentReply) (failed : S → ℕ) (old : List (Worker J S)) → HaveComeBack sent failed old old
all_came_back {J} {S} sent failed old = record {
  first = [];
  last = old;
  all = refl;
  each = λ k worker (below : k < 0). absurd (omega (arith, below));
  rest = ([], refl);
  most = omega arith;
  few = omega arith;
}

-- If no thread was started, the first came back as it went in, if there is one.
pub none_served : {J S : Type 0} (old : List (Worker J S)) → IsShort old old
none_served [] = inr (inl refl)
none_served (worker ∷ workers) = inr (inr (0, omega arith, λ other. refl))
