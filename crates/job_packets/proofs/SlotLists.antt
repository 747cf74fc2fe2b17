-- The slots that a word writes.
use Rattle.std.proofs.Common.{◌≡◌, ◌<◌, ◌++◌, ◌∷◌, ℕ, List, [], length, get_or, refl, sym, ap₂, subst, ◌∙◌}
use Rattle.std.specs.Str.Parse.{digits_value}
use Rattle.std.proofs.lemmas.List.{map_push}
use Rattle.std.proofs.lemmas.List.Elements.{All-append, All-cons, All-get_or, All-nil}
use Rattle.job_parts.specs.Options.{IsNumberWithin, WritesSuch}
use Rattle.job_packets.specs.HexWords.{Has}
use Rattle.job_packets.specs.Slips.{IsBadWord, bad_word}
use Rattle.job_packets.specs.Slots.{WriteSlots}
use Rattle.job_packets.specs.declared.slips.PacketWord.{PacketWord}

-- one more part, and its slot
pub one_more : (parts : List (List ℕ)) (part : List ℕ) (old new : List ℕ) (slot : ℕ) → WriteSlots parts old
    → WritesSuch (IsNumberWithin 0 3) part slot → new ≡ old ++ slot ∷ [] → WriteSlots (parts ++ part ∷ []) new
one_more parts part old new slot before one joined = (
  All-append (λ p. IsNumberWithin 0 3 p) parts (part ∷ []) before.0
      (All-cons (λ p. IsNumberWithin 0 3 p) part [] one.0 (All-nil (λ p. IsNumberWithin 0 3 p))),
  joined ∙ ap₂ (λ (front : List ℕ) (n : ℕ). front ++ n ∷ []) before.1 one.1 ∙ sym (map_push (λ p. digits_value 10 p) parts part),
)

-- a list with a part that writes no slot
pub bad_part : (parts : List (List ℕ)) (place : ℕ) (part : List ℕ) (whose : PacketWord) → place < length parts
    → part ≡ get_or parts place part → ((n : ℕ) → ¬ WritesSuch (IsNumberWithin 0 3) part n)
    → IsBadWord (Has (WriteSlots parts)) (bad_word whose)
bad_part parts place part whose inside is none = (
  tt,
  λ has. none (digits_value 10 part) (
    subst (λ p. IsNumberWithin 0 3 p) (sym is) (All-get_or (λ p. IsNumberWithin 0 3 p) parts place part inside has.1.0),
    refl,
  ),
)
