-- What a packet leaves of a node whose programs may be scrubbed as it was.
use Rattle.std.proofs.Common.{◌≡◌, ◌∙◌, inl, inr, ℕ, Bool, false, true, List, [], Option, None, Some, length, refl, sym, ap, subst}
use Rattle.std.proofs.lemmas.List.{length-set}
use Rattle.node_parts.specs.Passes.{PassValue}
use Rattle.scrub.specs.Guarded.{AnswersBy, AnswersOn, GuardedValue, IsRemade, LooksAtSlots, LooksAt, Repairs, RepairsUnless, Scrubs, ScrubsFirst, ScrubsSlot, ServesGuarded, Watched, beside, counting_on}
use Rattle.scrub.specs.Counting.{counted, renewed}
use Rattle.scrub.specs.declared.answer.ServedAnswer.{ServedAnswer}
use Rattle.scrub.specs.declared.guard.ScrubFindings.{ScrubFindings}
use Rattle.scrub.specs.declared.guard.Guard.{Guard}
use Rattle.scrub.specs.declared.guard.Health.{Health}
use Rattle.scrub.specs.declared.guard.Health.TheVariants.{Whole, Mended, Unmended, Withdrawn}
use Rattle.scrub.specs.declared.guard.Scrubbed.{Scrubbed}
use Rattle.scrub.specs.declared.guard.SlotsFound.{SlotsFound}
use Rattle.scrub.specs.declared.kept.SlotSums.{SlotSums}
use Rattle.single_node.specs.Nodes.{SingleNodeValue}
use Rattle.single_node.specs.Serving.{ServesInto}
use Rattle.single_node.specs.declared.served.ServedDetail.{ServedDetail}
use Rattle.spw.specs.Cargo.{Cargo}
use Rattle.job_nodes.specs.JobNode.{IsJobNode, rooms_of}
use Rattle.job_nodes.specs.LiveNodes.{live_node}
use Rattle.job_nodes.proofs.Banks.{answered_rooms, stays}

-- the banks and the ports are as before
abbrev AreSame : (before after : Watched) → Type 0
AreSame before after = (after.node.banks ≡ before.node.banks) × (after.node.passes ≡ before.node.passes)

same_all : (before after : Watched) → after ≡ before → AreSame before after
same_all before after is = (ap (λ (g : Watched). g.node.banks) is, ap (λ (g : Watched). g.node.passes) is)

same_then : (one two three : Watched) → AreSame one two → AreSame two three → AreSame one three
same_then one two three first second = (second.0 ∙ first.0, second.1 ∙ first.1)

-- a look at a slot
looked_same : (whole : Bool) (slot : ℕ) (before after : Watched) → LooksAt whole slot before after → AreSame before after
looked_same true slot before after s = (ap (λ (g : Watched). g.node.banks) s.after_is, ap (λ (g : Watched). g.node.passes) s.after_is)
looked_same false slot before after s = same_all before after s.same

looks_same : (seen : SlotsFound) (before after : Watched) → LooksAtSlots seen before after → AreSame before after
looks_same seen before after s =
    let two : AreSame before s.two = same_then before s.one s.two (looked_same seen.reads 0 before s.one s.reads) (looked_same seen.writes 1 s.one s.two s.writes) in
    let three : AreSame before s.three = same_then before s.two s.three two (looked_same seen.rmws 2 s.two s.three s.rmws) in
    same_then before s.three after three (looked_same seen.window 3 s.three after s.window)

-- what becomes of a slot that was found damaged
remade_same : (slot : ℕ) (image : List ℕ) (kept : SlotSums) (before after : Watched) → IsRemade slot image kept before after → AreSame before after
remade_same slot image kept before after is = elim is [
  | inl own ↦ (ap (λ (g : Watched). g.node.banks) own.again.after_is, ap (λ (g : Watched). g.node.passes) own.again.after_is)
  | inr lent ↦ (ap (λ (g : Watched). g.node.banks) lent.after_is, ap (λ (g : Watched). g.node.passes) lent.after_is)
]

repaired_same : (health : Health) (slot : ℕ) (image : List ℕ) (before after : Watched) → Repairs health slot image before after → AreSame before after
repaired_same Whole slot image before after s = absurd s
repaired_same Mended slot image before after s = remade_same slot image s.kept before after s.remade
repaired_same Withdrawn slot image before after s = (ap (λ (g : Watched). g.node.banks) s.after_is, ap (λ (g : Watched). g.node.passes) s.after_is)
repaired_same Unmended slot image before after s = (ap (λ (g : Watched). g.node.banks) s.after_is, ap (λ (g : Watched). g.node.passes) s.after_is)

unless_same : (whole : Bool) (health : Health) (slot : ℕ) (image : List ℕ) (before after : Watched) → RepairsUnless whole health slot image before after → AreSame before after
unless_same true health slot image before after s = same_all before after s.1
unless_same false health slot image before after s = repaired_same health slot image before after s

-- a scrub
scrubs_same : (reported : Scrubbed) (image : List ℕ) (before after : Watched) → Scrubs reported image before after → AreSame before after
scrubs_same reported image before after s =
    let one : AreSame before s.one = same_then before s.between s.one (looks_same s.seen before s.between s.looks) (unless_same s.seen.reads reported.reads 0 image s.between s.one s.reads) in
    let two : AreSame before s.two = same_then before s.one s.two one (unless_same s.seen.writes reported.writes 1 image s.one s.two s.writes) in
    let three : AreSame before s.three = same_then before s.two s.three two (unless_same s.seen.rmws reported.rmws 2 image s.two s.three s.rmws) in
    same_then before s.three after three (unless_same s.seen.window reported.window 3 image s.three after s.window)

scrubbed_same : (health : Health) (slot : ℕ) (before after : Watched) → ScrubsSlot health slot before after → AreSame before after
scrubbed_same health slot before after s = elim s [
  | inl whole ↦ looked_same true slot before after whole.1
  | inr all ↦ same_then before all.between after (same_all before all.between all.found.same) (scrubs_same all.reported [] all.between after all.scrubs)
]

first_same : (due : Bool) (slot : Option ℕ) (found : Option ScrubFindings) (before after : Watched) → ScrubsFirst due slot found before after → AreSame before after
first_same false slot found before after s = same_all (counting_on before (counted before.guard.counting)) after s.same
first_same true None found before after s = same_all before after s.same
first_same true (Some slot) found before after s = scrubbed_same s.health slot (counting_on before (renewed before.guard.counting)) after s.scrubs

-- as much room in each journal, and as many ports
abbrev AreAsMany : (before after : SingleNodeValue) → Type 0
AreAsMany before after = (rooms_of after.banks ≡ rooms_of before.banks) × (length after.passes ≡ length before.passes)

into_as_many : (reported : ServedDetail) (size port : ℕ) (packet : Cargo) (before after : SingleNodeValue) (room left : List ℕ) → ServesInto reported size port packet before after room left → AreAsMany before after
into_as_many reported size port packet before after room left s =
    let it = s.serves.serves in
    (answered_rooms reported.served packet _ _ it.holder it.left s.reply it.answered, ap (λ (xs : List PassValue). length xs) it.others ∙ length-set before.passes port it.left)

answered_as_many : (withheld : Bool) (reported : ServedDetail) (size port : ℕ) (packet : Cargo) (before after : Watched) (room left : List ℕ)
    → AnswersBy withheld reported size port packet before after room left → AreAsMany before.node after.node
answered_as_many true reported size port packet before after room left s =
    (ap (λ (g : Watched). rooms_of g.node.banks) s.after_is, ap (λ (g : Watched). length g.node.passes) s.after_is)
answered_as_many false reported size port packet before after room left s = into_as_many reported size port packet before.node after.node room left s.serves

on_as_many : (old new : Option Guard) (answer : ServedAnswer) (port : ℕ) (packet : Cargo) (before after : SingleNodeValue) (room left : List ℕ)
    → AnswersOn old new answer port packet before after room left → AreAsMany before after
on_as_many None new answer port packet before after room left s = into_as_many answer.reported answer.size port packet before after room left s.2
on_as_many (Some old) new answer port packet before after room left s =
    let it = s.2 in
    let same = first_same _ _ answer.found (beside old before) it.between it.scrubs in
    let many = answered_as_many _ answer.reported answer.size port packet it.between (beside s.0 after) room left it.answers in
    (many.0 ∙ ap rooms_of same.0, many.1 ∙ ap (λ (xs : List PassValue). length xs) same.1)

-- a packet leaves the node as it is in these
pub guarded_stays : (answer : ServedAnswer) (port : ℕ) (packet : Cargo) (before after : GuardedValue) (room left : List ℕ) (held : List (List ℕ)) (old new : List ℕ)
    → ServesGuarded answer port packet before after room left → IsJobNode (live_node before held old).node → IsJobNode (live_node after held new).node
guarded_stays answer port packet before after room left held old new s is =
    let many = on_as_many before.guard after.guard answer port packet before.node after.node room left s in
    stays (live_node before held old).node (live_node after held new).node many.0 many.1 refl is
