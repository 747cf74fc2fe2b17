-- A packet line that is answered in the room that was taken before.
use Rattle.std.proofs.Common.{◌≡◌, ℕ, Bool, true, false, List, ◌++◌, length, Option, None, Some, refl, sym, ap, subst, ◌∙◌}
use Rattle.std.specs.Prelude.{nat_lt}
use Rattle.std.specs.Io.KnownBytes.{Appends}
use Rattle.std.proofs.lemmas.List.{append_assoc}
use Rattle.spw.specs.Line.{words_of}
use Rattle.job_parts.specs.Printed.{job_fault_line}
use Rattle.job_parts.specs.declared.bad_lines.BadLine.{BadLine}
use Rattle.job_parts.specs.declared.faults.Fault.TheVariants.{BadLine as AtLine}
use Rattle.job_nodes.specs.LiveNodes.{LiveNodeValue, TakesPacketLine}
use Rattle.job_nodes.specs.declared.live_node.LineResult.{LineResult}
use Rattle.job_live.specs.Answering.{AnswersTalkLine, AnswersAsked, AnswersSetting, IsLongFault, MakesRoom, SetsOrRefuses, TakesAndPrints, fault_words}
use Rattle.job_live.specs.Asks.{IsAskedBy}
use Rattle.job_live.specs.Entries.{HandsOutLeft, taken_text}
use Rattle.job_live.specs.declared.answering.TheConstants.{MAX_LINE}
use Rattle.job_live.specs.declared.asks.Asks.{Asks}
use Rattle.job_live.specs.declared.asks.Asks.TheVariants.{Packet, Set}

-- what is put of a packet, in three parts
pub text_taken : (old mid all new found entries served : List ℕ) → mid ≡ old ++ found → all ≡ mid ++ entries → new ≡ all ++ served
    → new ≡ old ++ (found ++ entries ++ served)
text_taken old mid all new found entries served first second third =
    third ∙ ap (λ (l : List ℕ). l ++ served) (second ∙ ap (λ (l : List ℕ). l ++ entries) first ∙ append_assoc old found entries)
    ∙ append_assoc old (found ++ entries) served

-- a line that ended a packet
pub packet_taken : (at_once : Bool) (line : List ℕ) (number : ℕ) (before served after : LiveNodeValue) (taken : LineResult) (old new : List ℕ)
    → TakesPacketLine line (Some taken) before served → new ≡ old ++ taken_text at_once taken served.node → HandsOutLeft at_once served after
    → TakesAndPrints at_once line number false before after old new
packet_taken at_once line number before served after taken old new takes reported left = record {
  fault = None;
  between = new;
  taken = (Some taken, served, takes, (reported, left));
  reported = refl;
  bad = refl;
}

-- a line that ended none
pub none_taken : (at_once : Bool) (line : List ℕ) (number : ℕ) (before after : LiveNodeValue) (text : List ℕ)
    → TakesPacketLine line None before after → TakesAndPrints at_once line number false before after text text
none_taken at_once line number before after text takes = record {
  fault = None;
  between = text;
  taken = (None, after, takes, (refl, refl));
  reported = refl;
  bad = refl;
}

-- a packet line that was taken after that
pub packet_answered : (at_once : Bool) (line : List ℕ) (number : ℕ) (is_bad : Bool) (before ready after : LiveNodeValue) (words old mid new : List ℕ)
    → MakesRoom before ready (Some old) (Some mid) → words ≡ fault_words number
    → ((number : ℕ) → words ≡ fault_words number → TakesAndPrints at_once line number is_bad ready after mid new)
    → AnswersAsked at_once false Packet line number before after (Some old) (Some new) is_bad
packet_answered at_once line number is_bad before ready after words old mid new made is takes =
    let reported = takes number is in
    record {
      fault = reported.fault;
      between = Some reported.between;
      done = record { ready = ready; between = Some mid; room = made; taken = reported.taken };
      reported = reported.reported;
      bad = reported.bad;
    }

-- what a line of these words asks for was answered
answered : (at_once : Bool) (words : List (List ℕ)) (line : List ℕ) (number : ℕ) (before after : LiveNodeValue) (old new : Option (List ℕ)) (asks : Asks) (is_long is_bad : Bool)
    → words ≡ words_of line → IsAskedBy words asks → nat_lt MAX_LINE (length line) ≡ is_long → AnswersAsked at_once is_long asks line number before after old new is_bad
    → AnswersTalkLine at_once line number before after old new is_bad
answered at_once words line number before after old new asks is_long is_bad same is_asked at answers = record {
  asks = asks;
  asked = subst (λ (w : List (List ℕ)). IsAskedBy w asks) same is_asked;
  answered = subst (λ (l : Bool). AnswersAsked at_once l asks line number before after old new is_bad) (sym at) answers;
}

-- a line that is too long
pub long_answered : (at_once : Bool) (words others : List (List ℕ)) (line : List ℕ) (number : ℕ) (node : LiveNodeValue) (old new : Option (List ℕ)) (asks : Asks) (fault : BadLine)
    → words ≡ words_of line → IsAskedBy words asks → others ≡ words_of line → nat_lt MAX_LINE (length line) ≡ true → IsLongFault others asks fault
    → Appends old new (job_fault_line (AtLine number fault)) → AnswersTalkLine at_once line number node node old new true
long_answered at_once words others line number node old new asks fault same is_asked other at is_fault reported =
    answered at_once words line number node node old new asks true true same is_asked at
    (record {
      fault = Some fault;
      between = old;
      done = (subst (λ (w : List (List ℕ)). IsLongFault w asks fault) other is_fault, refl, refl);
      reported = reported;
      bad = refl;
    })

-- the write of an instrument
pub setting_answered : (at_once : Bool) (words others : List (List ℕ)) (line : List ℕ) (number : ℕ) (before after : LiveNodeValue) (old new : Option (List ℕ)) (asks : Asks) (is_bad : Bool)
    → words ≡ words_of line → IsAskedBy words asks → asks ≡ Set → others ≡ words_of line → nat_lt MAX_LINE (length line) ≡ false
    → AnswersSetting others number before after old new is_bad → AnswersTalkLine at_once line number before after old new is_bad
setting_answered at_once words others line number before after old new asks is_bad same is_asked is_set other at done =
    answered at_once words line number before after old new Set false is_bad same (subst (λ (a : Asks). IsAskedBy words a) is_set is_asked) at
    (record {
      fault = done.fault;
      between = done.between;
      done = subst (λ (w : List (List ℕ)). SetsOrRefuses w done.fault before after old done.between) other done.done;
      reported = done.reported;
      bad = done.bad;
    })
