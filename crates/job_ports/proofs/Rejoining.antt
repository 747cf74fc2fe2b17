-- Workers whose passes are taken back in turn.
use Rattle.std.proofs.Common.{◌≡◌, ◌<◌, ◌+◌, ℕ, zero, suc, List, [], ◌∷◌, ◌++◌, length, map, get_or, refl, sym, ap, subst, arith, ◌∙◌, ⊎_elim}
use Rattle.std.specs.Prelude.{slice_index_or, slice_set}
use Rattle.std.proofs.lemmas.Bool.{cases_eq, cases_lt}
use Rattle.std.proofs.lemmas.List.{get_or-set_other, get_or-set_same, get_or_append_left, length-append, length-set, map_push}
use Rattle.ports.specs.Queue.{IsPutPassOf, put_of, taken_of}
use Rattle.ports.specs.Sinks.{SinkValue}
use Rattle.ports.specs.declared.port.Port.{Port}
use Rattle.ports.specs.declared.port.PutPass.{PutPass}
use Rattle.ports.specs.declared.worker.Worker.{Worker}
use Rattle.job_ports.specs.Queues.{AreTakenBeginnings, AreOfPorts, IsBeginning}
use Rattle.lemmas.proofs.Pairs.{last}

-- An element is the same whatever is put in the place of those that are not there.
pub any_default : {A : Type 0} (xs : List A) (i : ℕ) (d e : A) → i < length xs → get_or xs i d ≡ get_or xs i e
any_default [] i d e low = absurd (omega (arith, low))
any_default (x ∷ xs) zero d e low = refl
any_default (x ∷ xs) (suc i) d e low = any_default xs i d e (omega (arith, low))

-- The passes of the first workers were taken back: what puts is as before, except for that.
pub record AreRejoined {J : Type 0} (ports : List Port) (first puts : List PutPass) (done : List (Worker J SinkValue)) (sinks : List SinkValue) : Type 0 where
  pub count : length puts ≡ length first
  pub same : (k : ℕ) (put_pass : PutPass) → k < length first → put_of (slice_index_or puts k put_pass) ≡ put_of (slice_index_or first k put_pass)
  pub own : (k : ℕ) (port : Port) (put_pass : PutPass) → k < length ports → IsPutPassOf (slice_index_or ports k port) (slice_index_or puts k put_pass)
  pub sinks_are : sinks ≡ map (λ (w : Worker J SinkValue). w.sink) done
  pub begins : AreTakenBeginnings first done

-- None was yet.
pub none_rejoined : {J : Type 0} (ports : List Port) (puts : List PutPass) (workers : List (Worker J SinkValue)) → AreOfPorts ports puts workers → AreRejoined {J = J} ports puts puts [] []
none_rejoined ports puts workers of = record {
  count = refl;
  same = λ k put_pass low. refl;
  own = of.puts;
  sinks_are = refl;
  begins = λ k put_pass worker low. absurd (omega (arith, low));
}

module _ {J : Type 0} (ports : List Port) (first puts : List PutPass) (done : List (Worker J SinkValue)) (sinks : List SinkValue)
    (was : AreRejoined ports first puts done sinks) (worker : Worker J SinkValue) (old new : PutPass) (place : ℕ) (here : place ≡ length done)
    (below : place < length first) (found : old ≡ get_or puts place old) (kept : put_of new ≡ put_of old)
    (begins : IsBeginning (taken_of worker.serve_pass) (put_of old)) (port : Port) (port_is : port ≡ get_or ports place port)
    (inside : place < length ports) (of : IsPutPassOf port new) where
  -- what was put is as at first
  at_first : (p : PutPass) → put_of old ≡ put_of (slice_index_or first place p)
  at_first p = ap put_of (found ∙ any_default puts place old p (omega (arith, below, was.count))) ∙ was.same place p below

  here_same : (k : ℕ) (p : PutPass) → k ≡ place → put_of (slice_index_or (slice_set puts place new) k p) ≡ put_of (slice_index_or first k p)
  here_same k p is =
      ap (λ (i : ℕ). put_of (slice_index_or (slice_set puts place new) i p)) is
      ∙ ap put_of (get_or-set_same puts place new p (omega (arith, below, was.count)))
      ∙ kept ∙ at_first p ∙ ap (λ (i : ℕ). put_of (slice_index_or first i p)) (sym is)

  here_own : (k : ℕ) (port' : Port) (p : PutPass) → k ≡ place → IsPutPassOf (slice_index_or ports k port') (slice_index_or (slice_set puts place new) k p)
  here_own k port' p is =
      subst (λ (i : ℕ). IsPutPassOf (slice_index_or ports i port') (slice_index_or (slice_set puts place new) i p)) (sym is)
      (subst (λ (q : PutPass). IsPutPassOf (slice_index_or ports place port') q) (sym (get_or-set_same puts place new p (omega (arith, below, was.count))))
      (subst (λ (q : Port). IsPutPassOf q new) (port_is ∙ any_default ports place port port' inside) of))

  -- One more.
  pub rejoined_more : AreRejoined ports first (slice_set puts place new) (done ++ worker ∷ []) (sinks ++ worker.sink ∷ [])
  rejoined_more = record {
    count = length-set puts place new ∙ was.count;
    same = λ k p low. ⊎_elim (here_same k p) (λ other. ap put_of (get_or-set_other puts place k new p other) ∙ was.same k p low) (cases_eq k place);
    own = λ k q p low. ⊎_elim (here_own k q p)
        (λ other. subst (λ (x : PutPass). IsPutPassOf (slice_index_or ports k q) x) (sym (get_or-set_other puts place k new p other)) (was.own k q p low))
        (cases_eq k place);
    sinks_are = ap (λ (l : List SinkValue). l ++ worker.sink ∷ []) was.sinks_are ∙ sym (map_push (λ (w : Worker J SinkValue). w.sink) done worker);
    begins = λ k p w low. ⊎_elim
        (λ (less : k < length done).
        subst (λ (x : Worker J SinkValue). IsBeginning (taken_of x.serve_pass) (put_of (slice_index_or first k p))) (sym (get_or_append_left done (worker ∷ []) w k less)) (was.begins k p w less))
        (λ more.
        let is : k ≡ length done = omega (arith, more, low, length-append done (worker ∷ [])) in
        subst (λ (x : Worker J SinkValue). IsBeginning (taken_of x.serve_pass) (put_of (slice_index_or first k p))) (sym (last done worker w k is))
        (subst (λ (i : ℕ). IsBeginning (taken_of worker.serve_pass) (put_of (slice_index_or first i p))) (here ∙ sym is)
        (subst (λ (put : List _). IsBeginning (taken_of worker.serve_pass) put) (at_first p) begins)))
        (cases_lt k (length done));
  }
