-- Workers that serve ports side by side: worker k serves port k.
use Rattle.std.specs.Prelude.{◌≡◌, ◌<◌, ◌≤◌, ◌+◌, ◌⊎◌, ℕ, List, [], ◌∷◌, ◌++◌, length, map, slice_index_or, Option}
use Rattle.std.specs.Prelude.{Some, None, MatchOption, vec_len, vec_capacity}
use Rattle.std.specs.List.{All, sum_by}
use mathlib.Core.List.{IsPrefix}
use Rattle.annals.specs.declared.deed.HistoryEntry.{HistoryEntry}
use Rattle.target.specs.Lines.{CountsAllOf}
use Rattle.annals.specs.Chains.{done_for}
use Rattle.annals.specs.Publishes.{publishes_of}
use Rattle.annals.specs.Shown.{AreListed, shown_in}
use Rattle.ports.specs.Laws.{AreAllEntries, AreAllPublishes}
use Rattle.ports.specs.Queue.{IsServePassOf, IsServePassAfter}
use Rattle.ports.specs.Sinks.{SentReply, cut}
use Rattle.ports.specs.Worked.{report_sum, standing_of, IsWorked}
use Rattle.std.specs.declared.thread.PromisedHandle.{PromisedHandle}
use Rattle.std.specs.declared.vec.Vec.{Vec}
use Rattle.ports.specs.declared.port.Port.{Port}
use Rattle.ports.specs.declared.starts.Ended.{Ended}
use Rattle.ports.specs.declared.starts.Start.{Start}
use Rattle.ports.specs.declared.worker.Worker.{Worker}
use Rattle.ports.specs.declared.worker.Report.{Report}

-- The worker is that of the port, at a node of that many banks. It takes from the port's queue and has a share of each
-- bank.
pub record IsWorkerOf {J S : Type 0} (banks : ℕ) (port : Port) (worker : Worker J S) : Type 0 where
  pub pass : IsServePassOf port worker.serve_pass
  pub shares : length worker.pass.pass.shares ≡ banks

-- there are that many ports, and below that number each worker is that of the port at its place
pub record AreServed {J S : Type 0} (banks n : ℕ) (ports : List Port) (workers : List (Worker J S)) : Type 0 where
  pub len : length ports ≡ n
  pub each : (k : ℕ) (port : Port) (worker : Worker J S) → k < n
      → IsWorkerOf banks (slice_index_or ports k port) (slice_index_or workers k worker)

-- the worker served its port until the end mark, with that report, and can serve it again
pub record HasReturned {J S : Type 0} (sent : S → List SentReply) (failed : S → ℕ) (old new : Worker J S)
    (report : Report) : Type 0 where
  pub worked : IsWorked sent failed old new report
  pub pass : IsServePassAfter old.serve_pass new.serve_pass
  pub shares : length new.pass.pass.shares ≡ length old.pass.pass.shares

-- what a thread gives back of its worker: the worker as it went in, or with a report if it served its port
abbrev pub IsBack : {J S : Type 0} → (S → List SentReply) → (S → ℕ) → Worker J S → Worker J S → Option Report → Type 0
IsBack sent failed old new report = MatchOption report (new ≡ old) (HasReturned sent failed old new)

-- the sum of reports
abbrev pub total_of : List Report → Report
total_of reports = record {
  discarded = cut (sum_by (λ (r : Report). r.discarded) reports);
  lost = cut (sum_by (λ (r : Report). r.lost) reports);
}

-- the sum of two reports that are there
pub record IsSumOf (a b : Option Report) (sum : Report) : Type 0 where
  pub first : Report
  pub second : Report
  pub a_is : a ≡ Some first
  pub b_is : b ≡ Some second
  pub added : sum ≡ report_sum first second

-- one of the reports is missing
abbrev pub IsOneMissing : List (Option Report) → Type 0
IsOneMissing [] = ⊥
IsOneMissing (None ∷ reported) = Unit {0}
IsOneMissing (Some report ∷ reported) = IsOneMissing reported

-- each report is there, and that is their sum
pub record IsTotalOf (reported : List (Option Report)) (total : Report) : Type 0 where
  pub reports : List Report
  pub all : reported ≡ map Some reports
  pub added : total ≡ total_of reports

-- the worker came back: as it went in, or after its port's end mark
abbrev pub HasComeBack : {J S : Type 0} → (S → List SentReply) → (S → ℕ) → Worker J S → Worker J S → Type 0
HasComeBack sent failed old new = (report : Option Report) × IsBack sent failed old new report

-- not all served: fewer workers came back than went in, or the one at some place is as it went in, or there are none
abbrev pub IsShort : {J S : Type 0} → (old new : List (Worker J S)) → Type 0
IsShort {J} {S} old new = (length new < length old) ⊎ (length old ≡ 0)
    ⊎ ((place : ℕ) × (place < length old) × ((worker : Worker J S)
    → slice_index_or new place worker ≡ slice_index_or old place worker))

-- the second list ends with the first
abbrev pub AreLast : {X : Type 0} → List X → List X → Type 0
AreLast {X} last all = (front : List X) × (all ≡ front ++ last)

-- What came back of workers that could not all be started. First come those that had a thread, each come back, and then
-- the last ones, as they went in. At most one is missing, the one between them.
pub record HaveComeBack {J S : Type 0} (sent : S → List SentReply) (failed : S → ℕ)
    (old new : List (Worker J S)) : Type 0 where
  pub first : List (Worker J S)
  pub last : List (Worker J S)
  pub all : new ≡ first ++ last
  pub each : (k : ℕ) (worker : Worker J S) → k < length first
      → HasComeBack sent failed (slice_index_or old k worker) (slice_index_or first k worker)
  pub rest : AreLast last old
  pub most : length new ≤ length old
  pub few : length old ≤ length new + 1

-- all that the worker's port knows is in that history, and so is all that it asked for, done
abbrev pub IsWorkerInformed : {J S : Type 0} → List HistoryEntry → Worker J S → Type 0
IsWorkerInformed log worker =
    IsPrefix worker.front log × IsPrefix worker.pass.asked (done_for worker.pass.pass.port log)

-- What the workers know of the history of their node begins one list. It has no entries of their ports except those
-- that their shares count. Of their ports it has what they asked for, and nothing else. At each moment of it readers
-- saw no program that was not published, and in the end they see all.
pub record ShareOneHistory {J S : Type 0} (workers : List (Worker J S)) : Type 0 where
  pub whole : List HistoryEntry
  pub begin : All (λ (w : Worker J S). IsPrefix w.front whole) workers
  pub counted : All (λ (w : Worker J S). CountsAllOf w.pass.pass whole) workers
  pub asked : All (λ (w : Worker J S). done_for w.pass.pass.port whole ≡ w.pass.asked) workers
  pub listed : AreListed whole
  pub shown : length (publishes_of whole) ≤ shown_in whole

-- Each worker served its port until the end mark and is at its place again. That report is the sum of theirs. What they
-- know of the history of the node's banks begins one list. Each entry of a worker's port in it, except those that its
-- shares counted at first, is that of one command of the worker. At each bank these are in the order of its packets.
-- Each publish of its port in it, except those that it had asked for at first, is that of one of its loads.
pub record HaveServed {J S : Type 0} (sent : S → List SentReply) (failed : S → ℕ) (banks : ℕ) (ports : List Port)
    (old new : List (Worker J S)) (total : Report) : Type 0 where
  pub reports : List Report
  pub reported : length reports ≡ length old
  pub len : length new ≡ length old
  pub each : (k : ℕ) (worker : Worker J S) (report : Report) → k < length old
      → IsWorked sent failed (slice_index_or old k worker) (slice_index_or new k worker)
      (slice_index_or reports k report)
  pub served : AreServed banks (length old) ports new
  pub sum : total ≡ total_of reports
  pub history : ShareOneHistory new
  pub entries : (k : ℕ) (worker : Worker J S) (report : Report) (below : k < length old)
      → AreAllEntries history.whole (slice_index_or old k worker).pass.pass (each k worker report below).served.deeds
  pub publishes : (k : ℕ) (worker : Worker J S) (report : Report) (below : k < length old)
      → AreAllPublishes history.whole (standing_of (slice_index_or old k worker)) (each k worker report below).served.deeds

-- the list is empty and has room for that many
abbrev pub HasRoomFor : {X Z : Type 0} → ℕ → Vec X Z → Type 0
HasRoomFor n list = (vec_len list ≡ 0) × (n ≤ vec_capacity list)

-- each of the first n threads is that of the worker at its place
abbrev pub AreThreadsOf : {J S : Type 0} → ℕ → List (PromisedHandle (Ended J S) (Start J S)) → List (Worker J S)
    → Type 0
AreThreadsOf {J} {S} n threads workers =
    (k : ℕ) (thread : PromisedHandle (Ended J S) (Start J S)) (worker : Worker J S) → k < n
    → (slice_index_or threads k thread).promise.0.value ≡ slice_index_or workers k worker
