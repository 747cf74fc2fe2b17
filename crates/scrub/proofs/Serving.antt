-- Which packets come to a slot that is withdrawn, and what is kept after a packet.
use Rattle.std.proofs.Common.{◌≡◌, ◌≢◌, inl, inr, ℕ, List, Bool, true, false, Option, None, Some, refl, sym, ap, subst, ◌∙◌}
use Rattle.std.specs.Prelude.{slice_get}
use Rattle.node_programs.specs.declared.publishes.Publish.{Publish}
use Rattle.node_programs.specs.Published.{generation_at}
use Rattle.scrub.specs.declared.kept.SlotSums.{SlotSums}
use Rattle.scrub.specs.Guarded.{AnswersBy, AnswersRead, AnswersUnread, FindsAt, FindsNothing, IsRemade, ScrubsFirst, Watched, counting_on}
use Rattle.scrub.specs.Counting.{counted, renewed}
use Rattle.scrub.specs.declared.guard.ScrubFindings.{ScrubFindings}
use Rattle.scrub.specs.Kept.{AreFresh, FollowAt, closed_in, is_withheld}
use Rattle.single_node.specs.declared.served.ServedDetail.{ServedDetail}
use Rattle.spw.specs.Cargo.{Cargo}

-- if no slot is withdrawn, none withholds a command
pub none_withheld : (sums : List SlotSums) → ((slot : ℕ) → closed_in (slice_get sums slot) ≡ false) → (asked : Option ℕ) → is_withheld sums asked ≡ false
none_withheld sums opened None = refl
none_withheld sums opened (Some slot) = opened slot

-- a slot whose program stays
pub follow_same : (before after : List Publish) (slot old new : ℕ) (kept : SlotSums) → generation_at before slot ≡ Some old → generation_at after slot ≡ Some new → new ≡ old
    → FollowAt before after slot (Some kept) (Some kept)
follow_same before after slot old new kept was is same = record {
  stay = λ e. refl;
  fresh = λ other. absurd (other (is ∙ ap (λ (n : ℕ). Some n) same ∙ sym was));
}

-- a slot that has another program
pub follow_other : (before after : List Publish) (slot old new : ℕ) (kept left : SlotSums) → generation_at before slot ≡ Some old → generation_at after slot ≡ Some new → new ≢ old
    → AreFresh after slot (Some left) → FollowAt before after slot (Some kept) (Some left)
follow_other before after slot old new kept left was is other fresh = record {
  stay = λ e. absurd (other (cc (was, is, e)));
  fresh = λ _. fresh;
}

-- the same of what was found at a place
pub follow_found : (before after : List Publish) (slot : ℕ) (old : Option SlotSums) (kept left : SlotSums) → old ≡ Some kept → FollowAt before after slot (Some kept) (Some left)
    → FollowAt before after slot old (Some left)
follow_found before after slot old kept left found follow = subst (λ (o : Option SlotSums). FollowAt before after slot o (Some left)) (sym found) follow

-- what becomes of a packet, by whether its slot is withdrawn
pub by_withheld : (withheld : Bool) (reported : ServedDetail) (size port : ℕ) (packet : Cargo) (before after : Watched) (room left : List ℕ) → withheld ≡ true → AnswersUnread reported size packet before after room left
    → AnswersBy withheld reported size port packet before after room left
by_withheld true reported size port packet before after room left is answers = answers
by_withheld false reported size port packet before after room left is answers = absurd (cc is)

pub by_read : (withheld : Bool) (reported : ServedDetail) (size port : ℕ) (packet : Cargo) (before after : Watched) (room left : List ℕ) → withheld ≡ false → AnswersRead reported size port packet before after room left
    → AnswersBy withheld reported size port packet before after room left
by_read true reported size port packet before after room left is serves = absurd (cc is)
by_read false reported size port packet before after room left is serves = serves

-- a program that is published changes no bank and no port
remade_same : (slot : ℕ) (image : List ℕ) (kept : SlotSums) (before after : Watched) → IsRemade slot image kept before after → (after.node.banks ≡ before.node.banks) × (after.node.passes ≡ before.node.passes)
remade_same slot image kept before after is = elim is [
  | inl own ↦ (ap (λ (g : Watched). g.node.banks) own.again.after_is, ap (λ (g : Watched). g.node.passes) own.again.after_is)
  | inr lent ↦ (ap (λ (g : Watched). g.node.banks) lent.after_is, ap (λ (g : Watched). g.node.passes) lent.after_is)
]

pub remade_banks : (slot : ℕ) (image : List ℕ) (kept : SlotSums) (before after : Watched) → IsRemade slot image kept before after → after.node.banks ≡ before.node.banks
remade_banks slot image kept before after is = (remade_same slot image kept before after is).0

pub remade_ports : (slot : ℕ) (image : List ℕ) (kept : SlotSums) (before after : Watched) → IsRemade slot image kept before after → after.node.passes ≡ before.node.passes
remade_ports slot image kept before after is = (remade_same slot image kept before after is).1

-- which slot is scrubbed first
pub first_not : (due : Bool) (slot : Option ℕ) (found : Option ScrubFindings) (before after : Watched) → due ≡ false → FindsNothing found (counting_on before (counted before.guard.counting)) after
    → ScrubsFirst due slot found before after
first_not true slot found before after is nothing = absurd (cc is)
first_not false slot found before after is nothing = nothing

pub first_none : (due : Bool) (slot : Option ℕ) (found : Option ScrubFindings) (before after : Watched) → due ≡ true → slot ≡ None → FindsNothing found before after → ScrubsFirst due slot found before after
first_none false slot found before after is none nothing = absurd (cc is)
first_none true None found before after is none nothing = nothing
first_none true (Some s) found before after is none nothing = absurd (cc none)

pub first_some : (due : Bool) (slot : Option ℕ) (s : ℕ) (found : Option ScrubFindings) (before after : Watched) → due ≡ true → slot ≡ Some s → FindsAt s found (counting_on before (renewed before.guard.counting)) after
    → ScrubsFirst due slot found before after
first_some false slot s found before after is some finds = absurd (cc is)
first_some true slot s found before after is some finds =
    subst (λ (o : Option ℕ). ScrubsFirst true o found before after) (sym some) finds
