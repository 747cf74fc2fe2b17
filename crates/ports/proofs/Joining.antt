-- What was done with some packets and then with others was done with all of them.
use Rattle.std.proofs.Common.{◌≡◌, ℕ, suc, ◌+◌, List, [], ◌∷◌, ◌++◌, length, sym, ap, ◌∙◌, subst, append_assoc, length-append, arith, inl, inr}
use Rattle.std.specs.Prelude.{map, filter}
use mathlib.Core.List.{map-append}
use Rattle.std.proofs.lemmas.List.Elements.{filter-append}
use Rattle.spw.specs.Cargo.{Cargo}
use Rattle.ports.specs.declared.worker.Report.{Report}
use Rattle.ports.specs.Due.{Deed, Standing, Worked, due, due_of, discarded, reply_in, is_reply, is_dropped}
use Rattle.ports.specs.Sinks.{SentReply, cut, sent_at}
use Rattle.ports.specs.Worked.{IsThinned, HasTaken, HasServed, report_sum}
use Rattle.ports.proofs.Following.{shares_count}

worked_join : (h mid after : Standing) (ps qs : List Cargo) (ds es : List Deed) → Worked h ps ds mid → Worked mid qs es after → Worked h (ps ++ qs) (ds ++ es) after
worked_join h mid after [] qs [] es w v = subst (λ m. Worked m qs es after) w v
worked_join h mid after [] qs (d ∷ ds) es w v = absurd w
worked_join h mid after (p ∷ ps) qs [] es w v = absurd w
worked_join h mid after (p ∷ ps) qs (d ∷ ds) es w v = (w.0, w.1, worked_join w.0 mid after ps qs ds es w.2 v)

thinned_join : (rs ss kept more : List SentReply) (lost fewer : ℕ) → IsThinned rs kept lost → IsThinned ss more fewer → IsThinned (rs ++ ss) (kept ++ more) (lost + fewer)
thinned_join [] ss kept more lost fewer t u =
    let none : lost + fewer ≡ fewer = let zero_lost = t.1 in omega (arith, zero_lost) in
    subst (λ l. IsThinned ss l (lost + fewer)) (sym (ap (λ l. l ++ more) t.0)) (subst (λ n. IsThinned ss more n) (sym none) u)
thinned_join (r ∷ rs) ss kept more lost fewer (inl t) u =
    inl (t.0 ++ more, ap (λ l. l ++ more) t.1, thinned_join rs ss t.0 more lost fewer t.2 u)
thinned_join (r ∷ rs) ss kept more lost fewer (inr t) u =
    let total : lost + fewer ≡ suc (t.0 + fewer) = let one_lost = t.1 in omega (arith, one_lost) in
    inr (t.0 + fewer, total, thinned_join rs ss kept more t.0 fewer t.2 u)

due_join : (ds es : List Deed) → due (ds ++ es) ≡ due ds ++ due es
due_join ds es = ap due_of (map-append reply_in ds es) ∙ filter-append is_reply (map reply_in ds) (map reply_in es)

sent_join : (port : ℕ) (ds es : List Deed) → sent_at port (due (ds ++ es)) ≡ sent_at port (due ds) ++ sent_at port (due es)
sent_join port ds es = ap (sent_at port) (due_join ds es) ∙ map-append (λ reply. (port, reply)) (due ds) (due es)

discarded_join : (ds es : List Deed) → discarded (ds ++ es) ≡ discarded ds + discarded es
discarded_join ds es = ap length (filter-append is_dropped ds es) ∙ length-append (filter is_dropped ds) (filter is_dropped es)

-- the sum of cut counts is the cut of the sum
pub cut_sum : (a b : ℕ) → cut (cut a + cut b) ≡ cut (a + b)
cut_sum a b = omega arith

cut_further : (a b c d e : ℕ) → cut b ≡ cut (a + d) → cut c ≡ cut (b + e) → cut c ≡ cut (a + (d + e))
cut_further a b c d e h k = omega arith

pub taken_join : (s t u : List SentReply) (f g h : ℕ) (rs qs : List SentReply) (lost fewer : ℕ) → HasTaken s t f g rs lost → HasTaken t u g h qs fewer → HasTaken s u f h (rs ++ qs) (lost + fewer)
taken_join s t u f g h rs qs lost fewer a b = record {
  kept = a.kept ++ b.kept;
  thinned = thinned_join rs qs a.kept b.kept lost fewer a.thinned b.thinned;
  taken = b.taken ∙ ap (λ l. l ++ b.kept) a.taken ∙ append_assoc s a.kept b.kept;
  failures = cut_further f g h lost fewer a.failures b.failures;
}

-- what was served in turn
pub served_join : {S : Type 0} (sent : S → List SentReply) (failed : S → ℕ) (h mid after : Standing) (s t u : S) (ps qs : List Cargo) (a b : Report) → HasServed sent failed h mid s t ps a → HasServed sent failed mid after t u qs b → HasServed sent failed h after s u (ps ++ qs) (report_sum a b)
served_join sent failed h mid after s t u ps qs a b x y =
    let lost = x.lost_count in let lost' = y.lost_count in let dropped = x.discarded_count in let dropped' = y.discarded_count in
    let all = discarded_join x.deeds y.deeds in
    let same : mid.pass.port ≡ h.pass.port = (shares_count h mid ps x.deeds x.worked).port in
    let more : HasTaken (sent t) (sent u) (failed t) (failed u) (sent_at h.pass.port (due y.deeds)) y.lost
    = subst (λ n. HasTaken (sent t) (sent u) (failed t) (failed u) (sent_at n (due y.deeds)) y.lost) same y.replies in
    record {
      deeds = x.deeds ++ y.deeds;
      lost = x.lost + y.lost;
      worked = worked_join h mid after ps qs x.deeds y.deeds x.worked y.worked;
      replies = subst (λ l. HasTaken (sent s) (sent u) (failed s) (failed u) l (x.lost + y.lost)) (sym (sent_join h.pass.port x.deeds y.deeds))
          (taken_join (sent s) (sent t) (sent u) (failed s) (failed t) (failed u) (sent_at h.pass.port (due x.deeds)) (sent_at h.pass.port (due y.deeds)) x.lost y.lost x.replies more);
      lost_count = omega (arith, lost, lost');
      discarded_count = omega (arith, dropped, dropped', all);
    }
