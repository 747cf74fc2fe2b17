-- Blocks of digits, and what is after them.
use Rattle.std.proofs.Common.{◌≡◌, ℕ, zero, suc, ◌+◌, ◌*◌, ◌/◌, ◌%◌, ◌<◌, ◌≤◌, List, [], ◌∷◌, ◌++◌, length, take, drop, get_or, refl, sym, ap, ◌∙◌, subst, arith, append_assoc, append-nil, Ok, Err}
use Rattle.std.specs.Prelude.{Result, IfOk}
use Rattle.std.specs.Char.{digit_value}
use Rattle.std.specs.List.{concat}
use Rattle.std.specs.Simd.{first_chunks}
use Rattle.std.specs.Str.Parse.{AllDigits}
use Rattle.std.proofs.Math.Seq.{take-suc}
use Rattle.std.proofs.lemmas.List.{drop-drop, length-append, length-drop, take-append-drop}
use Rattle.std.proofs.lemmas.List.Folds.{concat-append}
use Rattle.spw.specs.Line.{IsHex, bytes_written}

-- ---- digits, joined

digits_front : (a b : List ℕ) → AllDigits 16 (a ++ b) → AllDigits 16 a
digits_front [] b all = tt
digits_front (c ∷ a) b all = (all.0, digits_front a b all.1)

digits_back : (a b : List ℕ) → AllDigits 16 (a ++ b) → AllDigits 16 b
digits_back [] b all = all
digits_back (c ∷ a) b all = digits_back a b all.1

digits_both : (a b : List ℕ) → AllDigits 16 a → AllDigits 16 b → AllDigits 16 (a ++ b)
digits_both [] b first second = second
digits_both (c ∷ a) b first second = (first.0, digits_both a b first.1 second)

written_both : (a b : List ℕ) → length a % 2 ≡ 0 → bytes_written (a ++ b) ≡ bytes_written a ++ bytes_written b
written_both [] b even = refl
written_both (x ∷ []) b even = absurd (omega (arith, even))
written_both (x ∷ y ∷ a) b even = ap (λ (rest : List ℕ). (digit_value x * 16 + digit_value y) ∷ rest) (written_both a b (omega (arith, even)))

-- ---- block by block

-- the front of a word was read: an even number of digits, whose bytes are after those that were there
pub record IsRead (front before after : List ℕ) : Type 0 where
  pub even : length front % 2 ≡ 0
  pub digits : AllDigits 16 front
  pub bytes : after ≡ before ++ bytes_written front

pub none_read : (before : List ℕ) → IsRead [] before before
none_read before = record { even = refl; digits = tt; bytes = sym (append-nil before) }

concat_more : (i : ℕ) (blocks : List (List ℕ)) → i < length blocks → concat (take (i + 1) blocks) ≡ concat (take i blocks) ++ get_or blocks i []
concat_more i blocks below =
    let next : i + 1 ≡ suc i = omega arith in
    ap (λ k. concat (take k blocks)) next ∙ ap concat (take-suc blocks i [] below) ∙ concat-append (take i blocks) (get_or blocks i [] ∷ [])
    ∙ ap (λ (block : List ℕ). concat (take i blocks) ++ block) (append-nil (get_or blocks i []))

pub one_more : (i : ℕ) (blocks : List (List ℕ)) (before after written new : List ℕ) → i < length blocks → length (get_or blocks i []) ≡ 32
    → IsRead (concat (take i blocks)) before after → AllDigits 16 (get_or blocks i []) → written ≡ bytes_written (get_or blocks i [])
    → new ≡ after ++ written → IsRead (concat (take (i + 1) blocks)) before new
one_more i blocks before after written new below long is digits same put =
    let front = concat (take i blocks) in
    let block = get_or blocks i [] in
    subst (λ (f : List ℕ). IsRead f before new) (sym (concat_more i blocks below)) (record {
      even = omega (arith, is.even, long, length-append front block);
      digits = digits_both front block is.digits digits;
      bytes = put ∙ ap (λ (w : List ℕ). after ++ w) same ∙ ap (λ (a : List ℕ). a ++ bytes_written block) is.bytes
          ∙ append_assoc before (bytes_written front) (bytes_written block)
          ∙ ap (λ (w : List ℕ). before ++ w) (sym (written_both front block is.even));
    })

-- a block of blocks of digits has only digits
pub block_digits : (i : ℕ) (blocks : List (List ℕ)) → i < length blocks → AllDigits 16 (concat blocks) → AllDigits 16 (get_or blocks i [])
block_digits i [] below all = absurd (omega (arith, below))
block_digits zero (block ∷ blocks) below all = digits_front block (concat blocks) all
block_digits (suc i) (block ∷ blocks) below all = block_digits i blocks (omega (arith, below)) (digits_back block (concat blocks) all)

-- ---- a word of blocks, and what is behind them

blocks_and_rest : (k : ℕ) (word : List ℕ) → k * 32 ≤ length word → concat (first_chunks 32 k word) ++ drop (k * 32) word ≡ word
blocks_and_rest zero word fits = refl
blocks_and_rest (suc k) word fits =
    let next : suc k * 32 ≡ 32 + k * 32 = omega arith in
    append_assoc (take 32 word) (concat (first_chunks 32 k (drop 32 word))) (drop (suc k * 32) word)
    ∙ ap (λ (rest : List ℕ). take 32 word ++ (concat (first_chunks 32 k (drop 32 word)) ++ rest)) (ap (λ j. drop j word) next ∙ sym (drop-drop (k * 32) 32 word))
    ∙ ap (λ (rest : List ℕ). take 32 word ++ rest) (blocks_and_rest k (drop 32 word) (omega (arith, fits, length-drop 32 word)))
    ∙ take-append-drop 32 word

module _ (word rest : List ℕ) (blocks pairs : List (List ℕ)) (cut : blocks ≡ first_chunks 32 (length word / 32) word)
    (following : rest ≡ drop (length word / 32 * 32) word) (joined : concat pairs ≡ rest) (even : length word % 2 ≡ 0) where
  parts : concat blocks ++ concat pairs ≡ word
  parts = ap (λ (b : List (List ℕ)). concat b ++ concat pairs) cut ∙ ap (λ (r : List ℕ). concat (first_chunks 32 (length word / 32) word) ++ r) (joined ∙ following)
      ∙ blocks_and_rest (length word / 32) word (omega arith)

  even_front : length (concat blocks) % 2 ≡ 0
  even_front =
      let all : length (concat blocks ++ concat pairs) ≡ length word = ap (λ (w : List ℕ). length w) parts in
      let back : length (concat pairs) ≡ length (drop (length word / 32 * 32) word) = ap (λ (r : List ℕ). length r) (joined ∙ following) in
      omega (arith, all, back, even, length-append (concat blocks) (concat pairs), length-drop (length word / 32 * 32) word)

  pub front_is_hex : IsHex word → AllDigits 16 (concat blocks)
  front_is_hex hex = digits_front (concat blocks) (concat pairs) (subst (AllDigits 16) (sym parts) hex.1)

  pub back_is_hex : IsHex word → AllDigits 16 (concat pairs)
  back_is_hex hex = digits_back (concat blocks) (concat pairs) (subst (AllDigits 16) (sym parts) hex.1)

  pub both_are_hex : AllDigits 16 (concat blocks) → AllDigits 16 (concat pairs) → IsHex word
  both_are_hex first second = (even, subst (AllDigits 16) parts (digits_both (concat blocks) (concat pairs) first second))

  pub both_written : (before middle after : List ℕ) → middle ≡ before ++ bytes_written (concat blocks) → after ≡ middle ++ bytes_written (concat pairs)
      → after ≡ before ++ bytes_written word
  both_written before middle after first second =
      second ∙ ap (λ (m : List ℕ). m ++ bytes_written (concat pairs)) first ∙ append_assoc before (bytes_written (concat blocks)) (bytes_written (concat pairs))
      ∙ ap (λ (w : List ℕ). before ++ w) (sym (written_both (concat blocks) (concat pairs) even_front) ∙ ap bytes_written parts)

-- what follows for each value follows for what is answered
pub for_ok : {X E : Type 0} {P Q : X → Type 0} (answer : Result X E) → ((x : X) → P x → Q x) → IfOk answer P → IfOk answer Q
for_ok (Ok x) more is = more x is
for_ok (Err fault) more is = tt
