-- How a judged command ends at a bank with its chain, by the port's share at its place.
use Rattle.std.proofs.Common.{◌≡◌, ◌<◌, ℕ, Option, None, Some, true, false, true≢false, List, length, set, get_or, sym, ap, ◌∙◌, subst, arith}
use Rattle.std.specs.Prelude.{IfSome, IfNone}
use Rattle.std.proofs.lemmas.List.{get_or_read}
use Rattle.std.proofs.lemmas.Bool.{and_parts}
use mathlib.Core.List.{IsPrefix}
use Rattle.rmap.specs.declared.places.Place.{Place}
use Rattle.rmap.specs.declared.places.Place.TheVariants.{Bank}
use Rattle.bank.specs.declared.bank.Applied.{Applied}
use Rattle.bank.specs.Records.{ShareValue, JudgedValue, entry_of, first_share, fits, is_place_of}
use Rattle.node_parts.specs.Passes.{PassValue}
use Rattle.node_parts.specs.Steps.{IsBankBelow}
use Rattle.node_parts.specs.Applied.{share_of, with_share, IsFinished}
use Rattle.annals.specs.declared.deed.Act.TheVariants.{Leaves}
use Rattle.annals.specs.declared.deed.HistoryEntry.{HistoryEntry}
use Rattle.annals.specs.Chains.{LineValue, line_with}
use Rattle.annals.specs.Banks.{KeptValue, IsAppliedTo, IsDoneAtBank, IsRefusedAt, takes}
use Rattle.annals.specs.Publishes.{PublishesGrow, publishes_of}
use Rattle.node_programs.specs.declared.publishes.Publish.{Publish}
use Rattle.target.specs.Finished.{AsksForEntry, IsDoneAfter, IsFinishedAt}
use Rattle.lemmas.proofs.Prefixes.{prefix_trans}

-- a command that a bank takes fits it
pub taken_fits : (kept : KeptValue) (share : ShareValue) (j : JudgedValue) → takes kept share j ≡ true → fits kept.bank share j ≡ true
taken_fits kept share j took = (and_parts (is_place_of kept.chain.number j.place) (fits kept.bank share j) took).1

pub same_bank : (k n : ℕ) → Bank k ≡ Bank n → k ≡ n
same_bank k n e = cc

-- the share that was lent is the port's of the place
lent : (h : PassValue) (k from : ℕ) (place : Place) (first : ShareValue) → place ≡ Bank k → from ≡ k → IsBankBelow place (length h.shares) → first ≡ get_or h.shares from first → share_of h place ≡ first
lent h k from place first at same below read =
    let same_k : k ≡ below.0 = same_bank k below.0 (sym at ∙ below.1) in
    let low = below.2 in
    let within : from < length h.shares = omega (arith, same, same_k, low) in
    ap (share_of h) at ∙ ap (λ i. get_or h.shares i (first_share h.port)) (sym same) ∙ sym (get_or_read h.shares from first within read (first_share h.port))

pub finished_at : (old new : KeptValue) (known reached : List HistoryEntry) (h : PassValue) (k from : ℕ) (first share : ShareValue) (j : JudgedValue) (result : Applied) (reply : List ℕ) → j.place ≡ Bank k → from ≡ k → IsBankBelow j.place (length h.shares) → first ≡ get_or h.shares from first
    → (takes old first j ≡ true → IsAppliedTo old.bank new.bank first share j result reply)
    → (takes old first j ≡ false → IsRefusedAt old new first share j result reply)
    → IfSome result.number (λ n. IsDoneAfter h.programs old.chain.number known reached first j result reply)
    → IfNone result.number (reached ≡ known)
    → IsFinishedAt old new known reached h (record h { shares = set h.shares from share }) j result reply
finished_at old new known reached h k from first share j result reply at same below read applied refused done none =
    let is : share_of h j.place ≡ first = lent h k from j.place first at same below read in record {
      share = share;
      shares = ap (λ i. record h { shares = set h.shares i share }) same ∙ sym (ap (λ p. with_share h p share) at);
      applied = λ took. subst (λ s. IsAppliedTo old.bank new.bank s share j result reply) (sym is) (applied (subst (λ s. takes old s j ≡ true) is took));
      refused = λ left. subst (λ s. IsRefusedAt old new s share j result reply) (sym is) (refused (subst (λ s. takes old s j ≡ false) is left));
      done = subst (λ s. IfSome result.number (λ n. IsDoneAfter h.programs old.chain.number known reached s j result reply)) (sym is) done;
      none = none;
    }

-- what the port's line asked for, by the port's own share
pub asked_at : (bank : ℕ) (h : PassValue) (k from : ℕ) (first : ShareValue) (j : JudgedValue) (result : Applied) (line after : LineValue) → j.place ≡ Bank k → from ≡ k → IsBankBelow j.place (length h.shares) → first ≡ get_or h.shares from first
    → IfSome result.number (λ n. after ≡ line_with line bank (Leaves (entry_of first j result.status))) → IfNone result.number (after ≡ line)
    → AsksForEntry bank h j result line.asked after.asked
asked_at bank h k from first j result line after at same below read asked unasked =
    let is : share_of h j.place ≡ first = lent h k from j.place first at same below read in record {
      entry = reported result.number (subst (λ s. IfSome result.number (λ n. after ≡ line_with line bank (Leaves (entry_of s j result.status)))) (sym is) asked);
      nothing = none result.number unasked;
    }
  where
    reported : (number : Option ℕ) → IfSome number (λ n. after ≡ line_with line bank (Leaves (entry_of (share_of h j.place) j result.status)))
        → IfSome number (λ n. after.asked ≡ (line_with line bank (Leaves (entry_of (share_of h j.place) j result.status))).asked)
    reported None is = tt
    reported (Some n) is = ap (λ (l : LineValue). l.asked) is

    none : (number : Option ℕ) → IfNone number (after ≡ line) → IfNone number (after.asked ≡ line.asked)
    none None is = ap (λ (l : LineValue). l.asked) is
    none (Some n) is = tt

-- A command that was done after what the port had learnt was done after what it knew. It was done after the publishes
-- that it had learnt, too.
pub done_after : (number : Option ℕ) (programs : List Publish) (bank : ℕ) (known reported reached front : List HistoryEntry) (share : ShareValue) (j : JudgedValue) (result : Applied) (reply : List ℕ)
    → PublishesGrow → IsPrefix known reported → IsPrefix programs (publishes_of reported)
    → IfSome number (λ n. front ≡ reached) → IfSome number (λ n. IsDoneAtBank bank reported reached share j result reply)
    → IfSome number (λ n. IsDoneAfter programs bank known front share j result reply)
done_after None programs bank known reported reached front share j result reply grow more announcing is done = tt
done_after (Some n) programs bank known reported reached front share j result reply grow more announcing is done =
    let before = done.last.before in record {
      done = record {
        place = done.place;
        last = record { before = before; next = done.last.next; log = is ∙ done.last.log; seen = prefix_trans known reported before more done.last.seen };
        status = done.status;
        numbers = done.numbers;
        reply_is = done.reply_is;
      };
      published = prefix_trans programs (publishes_of reported) (publishes_of before) announcing (grow reported before done.last.seen);
    }

-- if the bank takes it, it ends as at a plain bank
pub ends_plainly : (old new : KeptValue) (known reached : List HistoryEntry) (h after : PassValue) (j : JudgedValue) (result : Applied) (reply : List ℕ) → IsFinishedAt old new known reached h after j result reply → takes old (share_of h j.place) j ≡ true → IsFinished old.bank new.bank h after j result reply
ends_plainly old new known reached h after j result reply end took =
    let a = end.applied took in
    let fit = taken_fits old (share_of h j.place) j took in record {
      applied = λ _. record {
        status = a.status;
        memory = a.memory;
        reply = a.reply_is;
        number = a.number;
        bank = a.bank;
        shares = end.shares ∙ ap (λ s. with_share h j.place s) a.share_is;
      };
      refused = λ misfit. absurd (true≢false (sym fit ∙ misfit));
    }
