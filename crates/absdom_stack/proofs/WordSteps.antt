-- One word of the stack: its range after a store and in a join.
use Rattle.std.proofs.Common.{◌≡◌, ◌≢◌, ℕ, zero, suc, ◌+◌, ◌-◌, ◌*◌, ◌/◌, ◌%◌, ◌<◌, ◌≤◌, max, Bool, true, false, ◌&&◌, nat_le, nat_lt, if◌then◌else◌, refl, sym, ◌∙◌, ap, subst, arith, ◌⊎◌, inl, inr, List, [], ◌∷◌, length, set, replicate, get_or-set_other, length-set}
use Rattle.std.proofs.lemmas.Bool.{cases_lt}
use Rattle.std.proofs.lemmas.Bool.Decides.{nat_tests}
use Rattle.std.proofs.lemmas.List.{ext_get_or, get_or_past, get_or-replicate, length-replicate}
use Rattle.bpf_parts.specs.declared.operation.Width.TheVariants.{Bits64}
use Rattle.absdom_num.specs.declared.ranges.Range.{Range}
use Rattle.absdom_num.specs.Ranges.{IsRange, IsWithin, joined_ranges}
use Rattle.absdom_num.specs.Tables.{whole_range}
use Rattle.absdom_stack.specs.declared.spill.Spill.{Spill}
use Rattle.absdom_stack.specs.declared.spill.Spill.TheVariants.{Forgets, Keeps}
use Rattle.absdom_stack.specs.Marks.{mark_at, all_marked, AreInBoth}
use Rattle.absdom_stack.specs.StackWords.{all_whole, range_in, AreAllWhole, AreStackWords, is_touched, widened_from, widened, is_stack_word, AreRangesJoined, AreRangesWithin}
use Rattle.absdom_stack.specs.StackWords.{stored_ranges}
use Rattle.absdom_stack.specs.Marks.{stored_marks, AreInside}
use Rattle.absdom_stack.proofs.MarkSteps.{equal_or_not, marked_bytes, all_marked_from, still_marked, stored_stays, stored_made}

-- ---- the whole range

pub whole_proper : IsRange (whole_range Bits64)
whole_proper = record { in_order = omega arith; words = omega arith }

pub within_whole : (r : Range) → IsRange r → IsWithin r (whole_range Bits64)
within_whole r h = record { above = omega arith; below = omega (arith, h.words) }

pub each_whole : AreAllWhole all_whole
unfolding all_whole
each_whole word =
    elim (cases_lt word 64) [
      | inl h ↦ get_or-replicate 64 word (whole_range Bits64) (whole_range Bits64) h
      | inr h ↦ get_or_past (replicate 64 (whole_range Bits64)) word (whole_range Bits64) (rw (length-replicate 64 (whole_range Bits64)) h)
    ]

pub length-whole : length all_whole ≡ 64
unfolding all_whole
length-whole = length-replicate 64 (whole_range Bits64)

pub all_words : AreStackWords all_whole
all_words =
    record {
      count = length-whole;
      each = λ word. let P : Range → Type 0 = λ r. IsRange r in subst P (sym (each_whole word)) whole_proper;
    }

-- one range 64 times
pub same_words : (r : Range) → IsRange r → AreStackWords (replicate 64 r)
same_words r proper =
    record {
      count = length-replicate 64 r;
      each = λ word.
          elim (cases_lt word 64) [
            | inl h ↦ let P : Range → Type 0 = λ q. IsRange q in subst P (sym (get_or-replicate 64 word r (whole_range Bits64) h)) proper
            | inr h ↦
                let P : Range → Type 0 = λ q. IsRange q in
                subst P (sym (get_or_past (replicate 64 r) word (whole_range Bits64) (rw (length-replicate 64 r) h))) whole_proper
          ];
    }

pair_same : (a b : ℕ × ℕ) → a.0 ≡ b.0 → a.1 ≡ b.1 → a ≡ b
pair_same a b e f = ap (λ (x : ℕ). (x, a.1)) e ∙ ap (λ (y : ℕ). (b.0, y)) f

-- the join of a range with the whole range is whole
pub whole_joined : (r : Range) → IsRange r → joined_ranges (whole_range Bits64) r ≡ whole_range Bits64
whole_joined r h = pair_same (joined_ranges (whole_range Bits64) r) (whole_range Bits64) (omega arith) (omega (arith, h.words))

pub joined_whole : (r : Range) → IsRange r → joined_ranges r (whole_range Bits64) ≡ whole_range Bits64
joined_whole r h = pair_same (joined_ranges r (whole_range Bits64)) (whole_range Bits64) (omega arith) (omega (arith, h.words))

pub joined_proper : (r s : Range) → IsRange r → IsRange s → IsRange (joined_ranges r s)
joined_proper r s g h = record { in_order = omega (arith, g.in_order, h.in_order); words = omega (arith, g.words, h.words) }

-- ---- a word that was written

-- what holds of the range that was written and of the whole one holds at the word
pub set_at : (P : Range → Type 0) (ranges : List Range) (word : ℕ) (range : Range) → P range → P (whole_range Bits64) → P (range_in (set ranges word range) word)
set_at P [] word range h w = w
set_at P (r ∷ ranges) zero range h w = h
set_at P (r ∷ ranges) (suc word) range h w = set_at P ranges word range h w

pub set_other : (ranges : List Range) (word k : ℕ) (range : Range) → k ≢ word → range_in (set ranges word range) k ≡ range_in ranges k
set_other ranges word k range ne = get_or-set_other ranges word k range (whole_range Bits64) ne

pub set_each : (P : Range → Type 0) (ranges : List Range) (word : ℕ) (range : Range) → P range → P (whole_range Bits64) → ((k : ℕ) → P (range_in ranges k)) → (k : ℕ) → P (range_in (set ranges word range) k)
set_each P ranges word range h w all k =
    elim (equal_or_not k word) [
      | inl e ↦ let Q : ℕ → Type 0 = λ q. P (range_in (set ranges word range) q) in subst Q (sym e) (set_at P ranges word range h w)
      | inr ne ↦ subst P (sym (set_other ranges word k range ne)) (all k)
    ]

pub set_words : (ranges : List Range) (word : ℕ) (range : Range) → AreStackWords ranges → IsRange range → AreStackWords (set ranges word range)
set_words ranges word range h proper =
    record {
      count = length-set ranges word range ∙ h.count;
      each = set_each IsRange ranges word range proper whole_proper h.each;
    }

-- ---- words that bytes touch

-- a word that is not touched lies before the bytes or after them
pub apart : (word first last : ℕ) → is_touched word first last ≡ false → (last < 8 * word) ⊎ (8 * word + 7 < first)
apart word first last e = grind (arith, nat_tests)

pub touching : (word first last : ℕ) → is_touched word first last ≡ true → (8 * word ≤ last) × (first ≤ 8 * word + 7)
touching word first last e = grind (arith, nat_tests)

pub is_touching : (word first last : ℕ) → 8 * word ≤ last → first ≤ 8 * word + 7 → is_touched word first last ≡ true
is_touching word first last g h = grind (arith, nat_tests)

pub not_touching : (word first last : ℕ) → (last < 8 * word) ⊎ (8 * word + 7 < first) → is_touched word first last ≡ false
not_touching word first last h = grind (arith, nat_tests)

pub length-widened_from : (word : ℕ) (ranges : List Range) (first last : ℕ) → length (widened_from word ranges first last) ≡ length ranges
unfolding widened_from
length-widened_from word [] first last = refl
length-widened_from word (r ∷ ranges) first last = ap suc (length-widened_from (suc word) ranges first last)

either_whole : (t : Bool) → whole_range Bits64 ≡ (if t then whole_range Bits64 else whole_range Bits64)
either_whole true = refl
either_whole false = refl

pub widened_from_at : (word : ℕ) (ranges : List Range) (first last k : ℕ) → range_in (widened_from word ranges first last) k ≡ (if is_touched (word + k) first last then whole_range Bits64 else range_in ranges k)
unfolding widened_from
widened_from_at word [] first last k = either_whole (is_touched (word + k) first last)
widened_from_at word (r ∷ ranges) first last zero =
    let e : word + 0 ≡ word = omega arith in
    ap (λ p. if is_touched p first last then whole_range Bits64 else r) (sym e)
widened_from_at word (r ∷ ranges) first last (suc k) =
    let e : suc word + k ≡ word + suc k = omega arith in
    widened_from_at (suc word) ranges first last k ∙ ap (λ p. if is_touched p first last then whole_range Bits64 else range_in ranges k) e

pub widened_at : (ranges : List Range) (first last k : ℕ) → range_in (widened ranges first last) k ≡ (if is_touched k first last then whole_range Bits64 else range_in ranges k)
widened_at ranges first last k =
    let e : 0 + k ≡ k = omega arith in
    widened_from_at 0 ranges first last k ∙ ap (λ p. if is_touched p first last then whole_range Bits64 else range_in ranges k) e

pub touched_whole : (ranges : List Range) (first last k : ℕ) → is_touched k first last ≡ true → range_in (widened ranges first last) k ≡ whole_range Bits64
touched_whole ranges first last k e =
    widened_at ranges first last k ∙ ap (λ t. if t then whole_range Bits64 else range_in ranges k) e

pub untouched_kept : (ranges : List Range) (first last k : ℕ) → is_touched k first last ≡ false → range_in (widened ranges first last) k ≡ range_in ranges k
untouched_kept ranges first last k e =
    widened_at ranges first last k ∙ ap (λ t. if t then whole_range Bits64 else range_in ranges k) e

-- what holds of each range and of the whole one holds of each range after the widening
pub widened_each : (P : Range → Type 0) (ranges : List Range) (first last : ℕ) → P (whole_range Bits64) → ((k : ℕ) → P (range_in ranges k)) → (k : ℕ) → P (range_in (widened ranges first last) k)
widened_each P ranges first last w all k =
    subst P (sym (widened_at ranges first last k)) (either (is_touched k first last))
  where
    either : (t : Bool) → P (if t then whole_range Bits64 else range_in ranges k)
    either true = w
    either false = all k

-- the ranges of the words from one to before another were forgotten
pub record AreForgotten (old new : List Range) (first end : ℕ) : Type 0 where
  pub size : length new ≡ length old
  pub each : (k : ℕ) → range_in new k ≡ (if nat_le first k && nat_lt k end then whole_range Bits64 else range_in old k)

inside_test : (first end k : ℕ) → first ≤ k → k < end → (nat_le first k && nat_lt k end) ≡ true
inside_test first end k g h = grind (arith, nat_tests)

outside_test : (first end k : ℕ) → (k < first) ⊎ (end ≤ k) → (nat_le first k && nat_lt k end) ≡ false
outside_test first end k h = grind (arith, nat_tests)

pub forgotten-none : (ranges : List Range) (first : ℕ) → AreForgotten ranges ranges first first
forgotten-none ranges first =
    record {
      size = refl;
      each = λ k. sym (ap (λ t. if t then whole_range Bits64 else range_in ranges k) (none k));
    }
  where
    none : (k : ℕ) → (nat_le first k && nat_lt k first) ≡ false
    none k = grind (arith, nat_tests)

pub forgotten-more : (old new : List Range) (first end : ℕ) → first ≤ end → AreForgotten old new first end → AreForgotten old (set new end (whole_range Bits64)) first (end + 1)
forgotten-more old new first end g h =
    record {
      size = length-set new end (whole_range Bits64) ∙ h.size;
      each = each;
    }
  where
    each : (k : ℕ) → range_in (set new end (whole_range Bits64)) k ≡ (if nat_le first k && nat_lt k (end + 1) then whole_range Bits64 else range_in old k)
    each k =
        elim (equal_or_not k end) [
          | inl e ↦
              let t : (nat_le first k && nat_lt k (end + 1)) ≡ true = inside_test first (end + 1) k (omega arith) (omega arith) in
              let is : range_in (set new end (whole_range Bits64)) k ≡ whole_range Bits64 =
              ap (range_in (set new end (whole_range Bits64))) e
              ∙ set_at (λ r. r ≡ whole_range Bits64) new end (whole_range Bits64) refl refl
              in
              is ∙ sym (ap (λ u. if u then whole_range Bits64 else range_in old k) t)
          | inr ne ↦
              let t : (nat_le first k && nat_lt k (end + 1)) ≡ (nat_le first k && nat_lt k end) = grind (arith, nat_tests) in
              set_other new end k (whole_range Bits64) ne ∙ h.each k ∙ sym (ap (λ u. if u then whole_range Bits64 else range_in old k) t)
        ]

-- so those of the words that bytes touch
pub forgotten-all : (old new : List Range) (first last end : ℕ) → first / 8 ≤ end → last / 8 + 1 ≤ end → end ≤ max (first / 8) (last / 8 + 1) → AreForgotten old new (first / 8) end → new ≡ widened old first last
forgotten-all old new first last end a b c h =
    ext_get_or (whole_range Bits64) new (widened old first last) (h.size ∙ sym (length-widened_from 0 old first last)) each
  where
    same : (k : ℕ) (t : Bool) → is_touched k first last ≡ t → (nat_le (first / 8) k && nat_lt k end) ≡ t
    same k true t =
        let near = touching k first last t in
        let low : 8 * k ≤ last = near.0 in
        let high : first ≤ 8 * k + 7 = near.1 in
        inside_test (first / 8) end k (omega arith) (omega arith)
    same k false t =
        let away : (last < 8 * k) ⊎ (8 * k + 7 < first) = apart k first last t in
        outside_test (first / 8) end k (elim away [ inl low ↦ beyond low | inr high ↦ inl (omega arith) ])
      where
        beyond : last < 8 * k → (k < first / 8) ⊎ (end ≤ k)
        beyond low = elim (cases_lt k (first / 8)) [ inl l ↦ inl l | inr g ↦ inr (omega arith) ]

    each : (k : ℕ) → k < length new → range_in new k ≡ range_in (widened old first last) k
    each k l =
        h.each k
        ∙ ap (λ u. if u then whole_range Bits64 else range_in old k) (same k (is_touched k first last) refl)
        ∙ sym (widened_at old first last k)

-- if nothing was known before, nothing is known after
pub still_whole : (ranges : List Range) (first last : ℕ) → AreAllWhole ranges → AreAllWhole (widened ranges first last)
still_whole ranges first last h = widened_each (λ r. r ≡ whole_range Bits64) ranges first last refl h

-- ---- joins

pub joined_words : (xs ys zs : List Range) → AreStackWords xs → AreStackWords ys → length zs ≡ 64 → AreRangesJoined xs ys zs → AreStackWords zs
joined_words xs ys zs g h size joint =
    record {
      count = size;
      each = λ k. let P : Range → Type 0 = λ r. IsRange r in subst P (sym (joint k)) (joined_proper (range_in xs k) (range_in ys k) (g.each k) (h.each k));
    }

both_set : (x y z : Bool) → z ≡ (x && y) → x ≡ true → y ≡ true → z ≡ true
both_set true y z e g h = e ∙ h
both_set false y z e g h = e ∙ g

-- a word whose bytes are not all set in both is unknown in a join
pub joined_unset : (xs ys zs : List Bool) (rs ss ts : List Range) → AreInBoth xs ys zs → AreRangesJoined rs ss ts → ((k : ℕ) → IsRange (range_in rs k)) → ((k : ℕ) → IsRange (range_in ss k)) → ((k : ℕ) → all_marked xs (8 * k) 8 ≡ false → range_in rs k ≡ whole_range Bits64) → ((k : ℕ) → all_marked ys (8 * k) 8 ≡ false → range_in ss k ≡ whole_range Bits64) → (k : ℕ) → all_marked zs (8 * k) 8 ≡ false → range_in ts k ≡ whole_range Bits64
joined_unset xs ys zs rs ss ts both joint g h one two k unset =
    joint k ∙ by_tests (all_marked xs (8 * k) 8) (all_marked ys (8 * k) 8) refl refl
  where
    by_tests : (t u : Bool) → all_marked xs (8 * k) 8 ≡ t → all_marked ys (8 * k) 8 ≡ u → joined_ranges (range_in rs k) (range_in ss k) ≡ whole_range Bits64
    by_tests false u e f = ap (λ r. joined_ranges r (range_in ss k)) (one k e) ∙ whole_joined (range_in ss k) (h k)
    by_tests true false e f = ap (λ r. joined_ranges (range_in rs k) r) (two k f) ∙ joined_whole (range_in rs k) (g k)
    by_tests true true e f =
        let yes : all_marked zs (8 * k) 8 ≡ true =
        all_marked_from zs (8 * k) 8 (λ i l. both_set (mark_at xs (8 * k + i)) (mark_at ys (8 * k + i)) (mark_at zs (8 * k + i)) (both (8 * k + i)) (marked_bytes xs (8 * k) 8 e i l) (marked_bytes ys (8 * k) 8 f i l))
        in
        let never : true ≡ false = sym yes ∙ unset in
        absurd cc

-- if each of 64 ranges is within its other, all words are
pub within_all : (xs ys : List Range) → length xs ≡ 64 → length ys ≡ 64 → ((k : ℕ) → k < 64 → IsWithin (range_in xs k) (range_in ys k)) → AreRangesWithin xs ys
within_all xs ys e f h k =
    elim (cases_lt k 64) [
      | inl l ↦ h k l
      | inr g ↦
          rw (get_or_past xs k (whole_range Bits64) (omega (arith, e)), get_or_past ys k (whole_range Bits64) (omega (arith, f)))
          (within_whole (whole_range Bits64) whole_proper)
    ]

pub joined_all : (xs ys zs : List Range) → length xs ≡ 64 → length ys ≡ 64 → length zs ≡ 64 → ((k : ℕ) → k < 64 → range_in zs k ≡ joined_ranges (range_in xs k) (range_in ys k)) → AreRangesJoined xs ys zs
joined_all xs ys zs e f g h k =
    elim (cases_lt k 64) [
      | inl l ↦ h k l
      | inr past ↦
          rw (get_or_past xs k (whole_range Bits64) (omega (arith, e)), get_or_past ys k (whole_range Bits64) (omega (arith, f)), get_or_past zs k (whole_range Bits64) (omega (arith, g)))
          (sym (whole_joined (whole_range Bits64) whole_proper))
    ]

-- the ranges that a flag selects are words
pub view_words : (narrow : Bool) (ranges : List Range) → AreStackWords ranges → AreStackWords (if narrow then ranges else all_whole)
view_words true ranges h = h
view_words false ranges h = all_words

-- if a flag is off, nothing is known
view_unknown : (n : Bool) (xs one : List Range) → (if n then xs else all_whole) ≡ one → n ≡ false → (k : ℕ) → range_in one k ≡ whole_range Bits64
view_unknown true xs one e off k = cc
view_unknown false xs one e off k = sym (ap (λ rs. range_in rs k) e) ∙ each_whole k

view_proper : (n : Bool) (xs one : List Range) → (if n then xs else all_whole) ≡ one → AreStackWords xs → (k : ℕ) → IsRange (range_in one k)
view_proper n xs one e h k = subst (λ (rs : List Range). IsRange (range_in rs k)) e ((view_words n xs h).each k)

-- if the other's flag is off, nothing is known in the join
pub joined_off : (n m : Bool) (xs ys one two : List Range) → (if n then xs else all_whole) ≡ one → (if m then ys else all_whole) ≡ two → AreStackWords xs → m ≡ false → AreRangesJoined one two all_whole
joined_off n m xs ys one two e f h off k =
    each_whole k
    ∙ sym (ap (λ r. joined_ranges (range_in one k) r) (view_unknown m ys two f off k) ∙ joined_whole (range_in one k) (view_proper n xs one e h k))

-- and if one's own is off
pub joined_kept : (n m : Bool) (xs ys one two : List Range) → (if n then xs else all_whole) ≡ one → (if m then ys else all_whole) ≡ two → AreStackWords ys → n ≡ false → AreRangesJoined one two one
joined_kept n m xs ys one two e f h off k =
    view_unknown n xs one e off k
    ∙ sym (ap (λ r. joined_ranges r (range_in two k)) (view_unknown n xs one e off k) ∙ whole_joined (range_in two k) (view_proper m ys two f h k))

-- if the other's flag is off, each range is within
pub within_unknown : (n m : Bool) (xs ys one two : List Range) → (if n then xs else all_whole) ≡ one → (if m then ys else all_whole) ≡ two → AreStackWords xs → m ≡ false → AreRangesWithin one two
within_unknown n m xs ys one two e f h off k =
    let P : Range → Type 0 = λ r. IsWithin (range_in one k) r in
    subst P (sym (view_unknown m ys two f off k)) (within_whole (range_in one k) (view_proper n xs one e h k))

pub length-view : (n : Bool) (xs one : List Range) → (if n then xs else all_whole) ≡ one → AreStackWords xs → length one ≡ 64
length-view n xs one e h = sym (ap length e) ∙ (view_words n xs h).count

-- if nothing was known, nothing is forgotten
pub widened_whole : (first last : ℕ) → widened all_whole first last ≡ all_whole
widened_whole first last =
    ext_get_or (whole_range Bits64) (widened all_whole first last) all_whole (length-widened_from 0 all_whole first last)
    (λ k l. still_whole all_whole first last each_whole k ∙ sym (each_whole k))

pub widened_view : (n : Bool) (xs one : List Range) (first last : ℕ) → (if n then xs else all_whole) ≡ one → n ≡ false → one ≡ widened one first last
widened_view true xs one first last e off = cc
widened_view false xs one first last e off =
    sym e ∙ sym (widened_whole first last) ∙ ap (λ (rs : List Range). widened rs first last) e

pub widened_words : (xs : List Range) (first last : ℕ) → AreStackWords xs → AreStackWords (widened xs first last)
widened_words xs first last h =
    record {
      count = length-widened_from 0 xs first last ∙ h.count;
      each = widened_each IsRange xs first last whole_proper h.each;
    }

-- ---- a store

-- the word is the one that a store fills
pub record IsFilled (spill : Spill) (bytes : ℕ) (firsts : ℕ × ℕ) (word : ℕ) : Type 0 where
  pub keeps : spill ≡ Keeps
  pub eight : bytes ≡ 8
  pub one : firsts.0 ≡ firsts.1
  pub first : firsts.0 ≡ 8 * word

pub word_test : (bytes : ℕ) (firsts : ℕ × ℕ) → is_stack_word bytes firsts ≡ true → (bytes ≡ 8) × (firsts.0 ≡ firsts.1) × (firsts.0 % 8 ≡ 0)
word_test bytes firsts e = (grind (arith, nat_tests), grind (arith, nat_tests), grind (arith, nat_tests))

pub word_if : (bytes : ℕ) (firsts : ℕ × ℕ) (word : ℕ) → bytes ≡ 8 → firsts.0 ≡ firsts.1 → firsts.0 ≡ 8 * word → is_stack_word bytes firsts ≡ true
word_if bytes firsts word e f g =
    let rest : firsts.0 % 8 ≡ 0 = omega arith in
    grind (arith, nat_tests)

pub filled_is_word : (spill : Spill) (bytes : ℕ) (firsts : ℕ × ℕ) (word : ℕ) → IsFilled spill bytes firsts word → is_stack_word bytes firsts ≡ true
filled_is_word spill bytes firsts word h = word_if bytes firsts word h.eight h.one h.first

pub filled_at : (spill : Spill) (ranges : List Range) (bytes : ℕ) (firsts : ℕ × ℕ) (value : Range) (word : ℕ) → IsFilled spill bytes firsts word → stored_ranges spill ranges bytes firsts value ≡ set ranges word value
filled_at Forgets ranges bytes firsts value word h = let no : Forgets ≡ Keeps = h.keeps in absurd cc
filled_at Keeps ranges bytes firsts value word h =
    let e : firsts.0 / 8 ≡ word = omega (arith, h.first) in
    ap (λ t. if t then set ranges (firsts.0 / 8) value else widened ranges firsts.0 (firsts.1 + bytes - 1)) (filled_is_word Keeps bytes firsts word h)
    ∙ ap (λ p. set ranges p value) e

-- a word that a store touches is filled, or nothing is known of it
pub touched_at : (spill : Spill) (ranges : List Range) (bytes : ℕ) (firsts : ℕ × ℕ) (value : Range) (word : ℕ) → is_touched word firsts.0 (firsts.1 + bytes - 1) ≡ true → IsFilled spill bytes firsts word ⊎ (range_in (stored_ranges spill ranges bytes firsts value) word ≡ whole_range Bits64)
touched_at Forgets ranges bytes firsts value word t =
    inr (touched_whole ranges firsts.0 (firsts.1 + bytes - 1) word t)
touched_at Keeps ranges bytes firsts value word t = either (is_stack_word bytes firsts) refl
  where
    either : (u : Bool) → is_stack_word bytes firsts ≡ u → IsFilled Keeps bytes firsts word ⊎ (range_in (if u then set ranges (firsts.0 / 8) value else widened ranges firsts.0 (firsts.1 + bytes - 1)) word ≡ whole_range Bits64)
    either true e =
        let is = word_test bytes firsts e in
        let eight : bytes ≡ 8 = is.0 in
        let one : firsts.0 ≡ firsts.1 = is.1 in
        let even : firsts.0 % 8 ≡ 0 = is.2 in
        let near = touching word firsts.0 (firsts.1 + bytes - 1) t in
        let low : 8 * word ≤ firsts.1 + bytes - 1 = near.0 in
        let high : firsts.0 ≤ 8 * word + 7 = near.1 in
        inl (record { keeps = refl; eight = eight; one = one; first = omega arith })
    either false e = inr (touched_whole ranges firsts.0 (firsts.1 + bytes - 1) word t)

-- a word that it does not touch keeps its range
pub left_at : (spill : Spill) (ranges : List Range) (bytes : ℕ) (firsts : ℕ × ℕ) (value : Range) (word : ℕ) → is_touched word firsts.0 (firsts.1 + bytes - 1) ≡ false → range_in (stored_ranges spill ranges bytes firsts value) word ≡ range_in ranges word
left_at Forgets ranges bytes firsts value word t = untouched_kept ranges firsts.0 (firsts.1 + bytes - 1) word t
left_at Keeps ranges bytes firsts value word t = either (is_stack_word bytes firsts) refl
  where
    either : (u : Bool) → is_stack_word bytes firsts ≡ u → range_in (if u then set ranges (firsts.0 / 8) value else widened ranges firsts.0 (firsts.1 + bytes - 1)) word ≡ range_in ranges word
    either true e =
        let is = word_test bytes firsts e in
        let eight : bytes ≡ 8 = is.0 in
        let one : firsts.0 ≡ firsts.1 = is.1 in
        let even : firsts.0 % 8 ≡ 0 = is.2 in
        let ne : word ≢ firsts.0 / 8 =
        λ same.
        let yes : is_touched word firsts.0 (firsts.1 + bytes - 1) ≡ true = is_touching word firsts.0 (firsts.1 + bytes - 1) (omega arith) (omega arith) in
        let no : true ≡ false = sym yes ∙ t in
        absurd cc
        in
        set_other ranges (firsts.0 / 8) word value ne
    either false e = untouched_kept ranges firsts.0 (firsts.1 + bytes - 1) word t

pub stored_each : (P : Range → Type 0) (spill : Spill) (ranges : List Range) (bytes : ℕ) (firsts : ℕ × ℕ) (value : Range) → P value → P (whole_range Bits64) → ((k : ℕ) → P (range_in ranges k)) → (k : ℕ) → P (range_in (stored_ranges spill ranges bytes firsts value) k)
stored_each P Forgets ranges bytes firsts value v w all k =
    widened_each P ranges firsts.0 (firsts.1 + bytes - 1) w all k
stored_each P Keeps ranges bytes firsts value v w all k =
    elim (is_stack_word bytes firsts) as (λ t. P (range_in (if t then set ranges (firsts.0 / 8) value else widened ranges firsts.0 (firsts.1 + bytes - 1)) k)) [
      | true ↦ set_each P ranges (firsts.0 / 8) value v w all k
      | false ↦ widened_each P ranges firsts.0 (firsts.1 + bytes - 1) w all k
    ]

pub length-stored : (spill : Spill) (ranges : List Range) (bytes : ℕ) (firsts : ℕ × ℕ) (value : Range) → length (stored_ranges spill ranges bytes firsts value) ≡ length ranges
length-stored Forgets ranges bytes firsts value = length-widened_from 0 ranges firsts.0 (firsts.1 + bytes - 1)
length-stored Keeps ranges bytes firsts value =
    elim (is_stack_word bytes firsts) as (λ t. length (if t then set ranges (firsts.0 / 8) value else widened ranges firsts.0 (firsts.1 + bytes - 1)) ≡ length ranges) [
      | true ↦ length-set ranges (firsts.0 / 8) value
      | false ↦ length-widened_from 0 ranges firsts.0 (firsts.1 + bytes - 1)
    ]

-- a word whose bytes are not all set after a store is unknown
pub stored_unset : (spill : Spill) (marks : List Bool) (ranges : List Range) (bytes : ℕ) (firsts : ℕ × ℕ) (value : Range) → length marks ≡ 512 → AreInside bytes firsts → ((k : ℕ) → all_marked marks (8 * k) 8 ≡ false → range_in ranges k ≡ whole_range Bits64) → (k : ℕ) → all_marked (stored_marks marks bytes firsts) (8 * k) 8 ≡ false → range_in (stored_ranges spill ranges bytes firsts value) k ≡ whole_range Bits64
stored_unset spill marks ranges bytes firsts value size inside old k unset = by_touch (is_touched k firsts.0 (firsts.1 + bytes - 1)) refl
  where
    was : all_marked marks (8 * k) 8 ≡ false
    was = before (all_marked marks (8 * k) 8) refl
      where
        before : (t : Bool) → all_marked marks (8 * k) 8 ≡ t → all_marked marks (8 * k) 8 ≡ false
        before false e = e
        before true e =
            let yes = still_marked marks (stored_marks marks bytes firsts) (8 * k) 8 (stored_stays marks bytes firsts) e in
            let never : true ≡ false = sym yes ∙ unset in
            absurd cc

    by_touch : (t : Bool) → is_touched k firsts.0 (firsts.1 + bytes - 1) ≡ t → range_in (stored_ranges spill ranges bytes firsts value) k ≡ whole_range Bits64
    by_touch false t = left_at spill ranges bytes firsts value k t ∙ old k was
    by_touch true t =
        elim (touched_at spill ranges bytes firsts value k t) [
          | inl fill ↦
              let yes : all_marked (stored_marks marks bytes firsts) (8 * k) 8 ≡ true =
              all_marked_from (stored_marks marks bytes firsts) (8 * k) 8
              (λ i l. stored_made marks bytes firsts (8 * k + i) fill.one (omega (arith, inside.first, size)) (omega (arith, fill.first)) (omega (arith, fill.first, fill.eight)))
              in
              let never : true ≡ false = sym yes ∙ unset in
              absurd cc
          | inr whole ↦ whole
        ]
