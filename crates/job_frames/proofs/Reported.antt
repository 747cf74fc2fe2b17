-- A packet that is answered in the room that was taken before.
use Rattle.std.proofs.Common.{◌≡◌, ℕ, Bool, List, [], ◌++◌, Option, Some, sym, ap, subst, ◌∙◌}
use Rattle.std.proofs.lemmas.List.{append-nil}
use Rattle.spw.specs.Cargo.{Cargo}
use Rattle.scrub.specs.declared.answer.ServedAnswer.{ServedAnswer}
use Rattle.job_nodes.specs.LiveNodes.{LiveNodeValue, ServesLive}
use Rattle.job_live.specs.Answering.{MakesRoom}
use Rattle.job_live.specs.Entries.{HandsOutLeft, entries_text}
use Rattle.job_live.specs.ScrubLines.{found_text}
use Rattle.job_frames.specs.Answering.{AnswersPacket, due_bytes_of}
use Rattle.job_frames.specs.Reported.{discard_words, served_text}

-- if nothing is reported of a packet
pub no_more : (begun new : List ℕ) → new ≡ begun → new ≡ begun ++ []
no_more begun new is = is ∙ sym (append-nil begun)

-- a packet that was served after that
pub packet_answered : (at_once : Bool) (packet : Cargo) (frame : ℕ) (before ready following after : LiveNodeValue) (words old journal mid all text reply : List ℕ) (answer : ServedAnswer)
    → old ≡ [] → MakesRoom before ready (Some old) (Some journal) → words ≡ discard_words frame → ServesLive answer 0 packet ready following → reply ≡ due_bytes_of following.node.reply
    → mid ≡ journal ++ found_text answer.found → all ≡ mid ++ entries_text at_once following.node.banks
    → ((frame : ℕ) → words ≡ discard_words frame → text ≡ all ++ served_text frame answer.reported.served)
    → HandsOutLeft at_once following after
    → AnswersPacket at_once packet frame before after reply text
packet_answered at_once packet frame before ready following after words old journal mid all text reply answer none made is serves replied reported left reports turned = record {
  ready = ready;
  journal = journal;
  answer = answer;
  room = subst (λ (l : List ℕ). MakesRoom before ready (Some l) (Some journal)) none made;
  following = following;
  serves = serves;
  replied = replied;
  reported =
      reports frame is ∙ ap (λ (l : List ℕ). l ++ served_text frame answer.reported.served) (left ∙ ap (λ (l : List ℕ). l ++ entries_text at_once following.node.banks) reported);
  turned = turned;
}
