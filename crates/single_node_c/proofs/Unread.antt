-- What became of a packet says whether it is a command.
use Rattle.std.proofs.Common.{◌≡◌, ℕ, List, Bool, true, false, Option, None, Some, refl, sym, ap, ◌∙◌}
use Rattle.std.specs.Prelude.{slice_get}
use Rattle.node_parts.specs.declared.served.Served.{Served}
use Rattle.node_parts.specs.declared.served.Served.TheVariants.{Stopped, Unread, Done, Window}
use Rattle.node_parts.specs.declared.stop.Stop.TheVariants.{Discarded, Answered}
use Rattle.node_parts.specs.Passes.{PassValue}
use Rattle.node_parts.specs.Served.{IsAnswered, PartsValue}
use Rattle.rmap.specs.Command.{CommandValue, command_of, discard_of}
use Rattle.rmap.specs.Windows.{WindowsValue}
use Rattle.rmap.specs.declared.discard.Discard.{Discard}
use Rattle.scrub.specs.Guarded.{AnswersBy, AnswersOn, GuardedValue, ServesGuarded, Watched, beside}
use Rattle.scrub.specs.declared.answer.ServedAnswer.{ServedAnswer}
use Rattle.scrub.specs.declared.guard.Guard.{Guard}
use Rattle.scrub.specs.declared.kept.SlotSums.{SlotSums}
use Rattle.scrub.specs.Kept.{is_withheld}
use Rattle.single_node.specs.Nodes.{SingleNodeValue, port_slot_in, slot_unless}
use Rattle.single_node.specs.Serving.{ServesInto}
use Rattle.single_node.specs.declared.served.ServedDetail.{ServedDetail}
use Rattle.single_node_c.specs.Parts.{discard_in}
use Rattle.spw.specs.Cargo.{Cargo}

of_answered : (served : Served) (p : Cargo) (old new : PartsValue) (h after : PassValue) (reply : List ℕ) → IsAnswered served p old new h after reply
    → discard_of p.bytes ≡ discard_in served
of_answered (Stopped (Discarded d)) p old new h after reply is = is.0.0
of_answered (Stopped (Answered status)) p old new h after reply is = is.0.0.command
of_answered Unread p old new h after reply is = is.0.allowed.command
of_answered (Done result) p old new h after reply is = is.judgement.judged_for.placed.command
of_answered (Window status) p old new h after reply is = is.judgement.judged_for.placed.command

-- a packet that a program would judge is a command
asked_unless : (discard : Option Discard) (w : WindowsValue) (c : CommandValue) (slot : ℕ) → slot_unless discard w c ≡ Some slot → discard ≡ None
asked_unless None w c slot is = refl
asked_unless (Some d) w c slot is = absurd (cc is)

asked_in : (o : Option PassValue) (p : Cargo) (slot : ℕ) → port_slot_in o p ≡ Some slot → discard_of p.bytes ≡ None
asked_in None p slot is = absurd (cc is)
asked_in (Some h) p slot is = asked_unless (discard_of p.bytes) h.windows (command_of p) slot is

withheld_asked : (sums : List SlotSums) (asked : Option ℕ) (o : Option PassValue) (p : Cargo) → port_slot_in o p ≡ asked → is_withheld sums asked ≡ true → discard_of p.bytes ≡ None
withheld_asked sums None o p is withheld = absurd (cc withheld)
withheld_asked sums (Some slot) o p is withheld = asked_in o p slot is

-- what became of a packet at a node of one thread
of_into : (reported : ServedDetail) (size port : ℕ) (p : Cargo) (before after : SingleNodeValue) (room left : List ℕ) → ServesInto reported size port p before after room left
    → discard_of p.bytes ≡ discard_in reported.served
of_into reported size port p before after room left is =
    let it = is.serves.serves in
    of_answered reported.served p _ _ it.holder it.left is.reply it.answered

of_answer : (withheld : Bool) (reported : ServedDetail) (size port : ℕ) (p : Cargo) (before after : Watched) (room left : List ℕ) (o : Option PassValue)
    → is_withheld before.guard.sums (port_slot_in o p) ≡ withheld → AnswersBy withheld reported size port p before after room left → discard_of p.bytes ≡ discard_in reported.served
of_answer true reported size port p before after room left o is answers =
    withheld_asked before.guard.sums (port_slot_in o p) o p refl is ∙ ap (λ (t : ServedDetail). discard_in t.served) (sym answers.reported_is)
of_answer false reported size port p before after room left o is answers = of_into reported size port p before.node after.node room left answers.serves

by_guard : (old new : Option Guard) (answer : ServedAnswer) (port : ℕ) (p : Cargo) (before after : SingleNodeValue) (room left : List ℕ) → AnswersOn old new answer port p before after room left
    → discard_of p.bytes ≡ discard_in answer.reported.served
by_guard None new answer port p before after room left s = of_into answer.reported answer.size port p before after room left s.2
by_guard (Some old) new answer port p before after room left s =
    let it = s.2 in
    of_answer (is_withheld it.between.guard.sums (port_slot_in (slice_get it.between.node.passes port) p)) answer.reported answer.size port p it.between (beside s.0 after) room left (slice_get it.between.node.passes port) refl it.answers

pub discards : (answer : ServedAnswer) (port : ℕ) (p : Cargo) (before after : GuardedValue) (room left : List ℕ) → ServesGuarded answer port p before after room left
    → discard_of p.bytes ≡ discard_in answer.reported.served
discards answer port p before after room left s = by_guard before.guard after.guard answer port p before.node after.node room left s
