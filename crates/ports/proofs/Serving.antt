-- What a worker has done so far, and one packet more.
use Rattle.std.proofs.Common.{◌≡◌, ℕ, ◌<◌, Bool, List, [], ◌∷◌, ◌++◌, sym, refl, ap, ◌∙◌, subst, append_assoc, arith}
use Rattle.std.specs.Prelude.{map}
use mathlib.Core.List.{map-append}
use mir.Val.{bool_byte}
use Rattle.std.proofs.lemmas.List.{append-nil}
use Rattle.spw.specs.Cargo.{Cargo}
use Rattle.ports.specs.declared.item.Item.TheVariants.{Data}
use Rattle.ports.specs.declared.worker.Report.{Report}
use Rattle.ports.specs.declared.worker.Worker.{Worker}
use Rattle.ports.specs.Due.{Deed, Standing, HasDealt, due_of, is_dropped, discarded}
use Rattle.ports.specs.Due.Deed.{Dropped, Answered, Judged}
use Rattle.ports.specs.Queue.{taken_of}
use Rattle.ports.specs.Sinks.{SentReply, cut, sent_at}
use Rattle.ports.specs.Worked.{HasTaken, HasServed, report_sum, standing_of}
use Rattle.ports.proofs.Joining.{served_join}

-- a worker took these packets, and served each
pub record IsUnderWay {J S : Type 0} (sent : S → List SentReply) (failed : S → ℕ) (old new : Worker J S) (report : Report) : Type 0 where
  pub packets : List Cargo
  pub took : taken_of new.serve_pass ≡ taken_of old.serve_pass ++ map Data packets
  pub served : HasServed sent failed (standing_of old) (standing_of new) old.sink new.sink packets report

pub none_yet : {J S : Type 0} (sent : S → List SentReply) (failed : S → ℕ) (w : Worker J S) → IsUnderWay sent failed w w (record { discarded = 0; lost = 0 })
none_yet sent failed w = record {
  packets = [];
  took = sym (append-nil (taken_of w.serve_pass));
  served = record {
    deeds = [];
    lost = 0;
    worked = refl;
    replies = record { kept = []; thinned = (refl, refl); taken = sym (append-nil (sent w.sink)); failures = ap cut (omega arith) };
    lost_count = refl;
    discarded_count = refl;
  };
}

dropped_count : (d : Deed) → bool_byte (is_dropped d) ≡ cut (discarded (d ∷ []))
dropped_count Dropped = refl
dropped_count (Answered reply) = refl
dropped_count (Judged judging) = refl

-- one packet was served
pub one_served : {S : Type 0} (sent : S → List SentReply) (failed : S → ℕ) (h after : Standing) (s t : S) (p : Cargo) (reply : List ℕ) (dropped : Bool) (count lost : ℕ) → HasDealt p h after reply dropped → count ≡ bool_byte dropped → HasTaken (sent s) (sent t) (failed s) (failed t) (sent_at h.pass.port (due_of (reply ∷ []))) lost → lost < 18446744073709551616 → HasServed sent failed h after s t (p ∷ []) (record { discarded = count; lost = lost })
one_served sent failed h after s t p reply dropped count lost dealt is taken few = record {
  deeds = dealt.deed ∷ [];
  lost = lost;
  worked = (after, dealt.dealt, refl);
  replies = subst (λ r. HasTaken (sent s) (sent t) (failed s) (failed t) (sent_at h.pass.port (due_of (r ∷ []))) lost) dealt.reply_is taken;
  lost_count = omega (arith, few);
  discarded_count = is ∙ ap bool_byte dealt.dropped_is ∙ dropped_count dealt.deed;
}

-- one packet more was taken and served
pub one_more : {J S : Type 0} (sent : S → List SentReply) (failed : S → ℕ) (old mid new : Worker J S) (p : Cargo) (a b all : Report) → IsUnderWay sent failed old mid a → taken_of new.serve_pass ≡ taken_of mid.serve_pass ++ Data p ∷ [] → HasServed sent failed (standing_of mid) (standing_of new) mid.sink new.sink (p ∷ []) b → all ≡ report_sum a b → IsUnderWay sent failed old new all
one_more sent failed old mid new p a b all way took served sum = record {
  packets = way.packets ++ p ∷ [];
  took = took ∙ ap (λ l. l ++ Data p ∷ []) way.took ∙ append_assoc (taken_of old.serve_pass) (map Data way.packets) (Data p ∷ []) ∙ ap (λ l. taken_of old.serve_pass ++ l) (sym (map-append Data way.packets (p ∷ [])));
  served = subst (λ r. HasServed sent failed (standing_of old) (standing_of new) old.sink new.sink (way.packets ++ p ∷ []) r) (sym sum)
      (served_join sent failed (standing_of old) (standing_of mid) (standing_of new) old.sink mid.sink new.sink way.packets (p ∷ []) a b way.served served);
}
