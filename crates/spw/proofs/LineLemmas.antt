-- What the words of a line say of its reading.
use Rattle.std.proofs.Common.{◌≡◌, ◌≢◌, inl, inr, ℕ, ◌≤◌, List, [], ◌∷◌, ◌++◌, length, get_or, All, Option, Some, None, codes, Ok, Err, refl, sym, ap, ◌∙◌, subst, arith}
use Rattle.std.specs.List.{flat_map}
use Rattle.std.specs.Str.Parse.{digits_value}
use Rattle.spw.specs.Line.{words_of, WriteBytes, marker_word, mark_word, AreParts, AreNoParts, IsNoMark, IsBytesFault, IsHex, bytes_written, IsMarkedLine, HasPort, HasMark, HasHex, HasFault, IsReading, IsUnambiguous}
use Rattle.spw.specs.declared.faults.LineFault.{LineFault}
use Rattle.spw.specs.declared.faults.LineFault.TheVariants.{NoPort, BadHex, BadMarker, TooLong, Memory}
use Rattle.spw.specs.declared.packets.End.{End}
use Rattle.spw.specs.declared.packets.End.TheVariants.{Eop, Eep}
use Rattle.std.proofs.lemmas.List.Elements.{All-same}

-- the head of a list that is not empty, or d
head_or : {X : Type 0} → X → List X → X
head_or d [] = d
head_or d (x ∷ xs) = x

-- the list without its head
tail_of : {X : Type 0} → List X → List X
tail_of [] = []
tail_of (x ∷ xs) = xs

unfolding-heads : {X : Type 0} (d x y : X) (xs ys : List X) → x ∷ xs ≡ y ∷ ys → (x ≡ y) × (xs ≡ ys)
unfolding head_or tail_of
unfolding-heads d x y xs ys same = (ap (head_or d) same, ap tail_of same)

nil_or_snoc : {X : Type 0} (xs : List X) (x : X) → xs ++ x ∷ [] ≢ []
nil_or_snoc [] x same = cc
nil_or_snoc (y ∷ xs) x same = cc

-- two lists that end in one element each
snoc_parts : {X : Type 0} (xs ys : List X) (x y : X) → xs ++ x ∷ [] ≡ ys ++ y ∷ [] → (xs ≡ ys) × (x ≡ y)
snoc_parts [] [] x y same = (refl, (unfolding-heads x x y [] [] same).0)
snoc_parts [] (b ∷ ys) x y same = absurd (nil_or_snoc ys y (sym (unfolding-heads x x b [] (ys ++ y ∷ []) same).1))
snoc_parts (a ∷ xs) [] x y same = absurd (nil_or_snoc xs x (unfolding-heads x a y (xs ++ x ∷ []) [] same).1)
snoc_parts (a ∷ xs) (b ∷ ys) x y same =
    let parts = unfolding-heads x a b (xs ++ x ∷ []) (ys ++ y ∷ []) same in
    let rest = snoc_parts xs ys x y parts.1 in
    (ap (λ (c : _). c ∷ xs) parts.0 ∙ ap (λ (zs : List _). b ∷ zs) rest.0, rest.1)

-- ---- a line has one reading

-- different end markers have different words
pub marker_word-same : (a b : End) → marker_word a ≡ marker_word b → a ≡ b
marker_word-same Eop Eop same = refl
marker_word-same Eop Eep same = absurd (omega (arith, ap (λ word. get_or word 1 0) same))
marker_word-same Eep Eop same = absurd (omega (arith, ap (λ word. get_or word 1 0) same))
marker_word-same Eep Eep same = refl

no_part : (a : End) → marker_word a ≢ codes "PART"
no_part Eop same = absurd (omega (arith, ap (λ word. get_or word 0 0) same))
no_part Eep same = absurd (omega (arith, ap (λ word. get_or word 0 0) same))

-- different marks have different words
pub mark_word-same : (a b : Option End) → mark_word a ≡ mark_word b → a ≡ b
mark_word-same (Some a) (Some b) same = ap Some (marker_word-same a b same)
mark_word-same (Some a) None same = absurd (no_part a same)
mark_word-same None (Some b) same = absurd (no_part b (sym same))
mark_word-same None None same = refl

-- different marks have different words
abbrev pub AreApart : {M : Type 0} → (M → List ℕ) → Type 0
AreApart {M} word = (a b : M) → word a ≡ word b → a ≡ b

line_unambiguous : {M : Type 0} (word : M → List ℕ) → AreApart word → IsUnambiguous word
line_unambiguous word apart line port other bytes another mark last a b =
    let parts = unfolding-heads [] a.first b.first _ _ (sym a.words ∙ b.words) in
    let ends = snoc_parts a.between b.between (word mark) (word last) parts.1 in (
      a.port_written ∙ ap (digits_value 10) parts.0 ∙ sym b.port_written,
      a.bytes_joined ∙ ap (flat_map bytes_written) ends.0 ∙ sym b.bytes_joined,
      apart mark last ends.1,
    )

pub packet_unambiguous : IsUnambiguous marker_word
packet_unambiguous = line_unambiguous marker_word marker_word-same

pub piece_unambiguous : IsUnambiguous mark_word
piece_unambiguous = line_unambiguous mark_word mark_word-same

-- ---- a line of the form has no fault but its length

line_has_port : {M : Type 0} (word : M → List ℕ) (line : List ℕ) (port : ℕ) (bytes : List ℕ) (mark : M) → IsMarkedLine word line port bytes mark → HasPort line
line_has_port word line port bytes mark a =
    record { first = a.first; rest = a.between ++ word mark ∷ []; words = a.words; is_port = a.is_port }

line_has_mark : {M : Type 0} (word : M → List ℕ) (line : List ℕ) (port : ℕ) (bytes : List ℕ) (mark : M) → IsMarkedLine word line port bytes mark → HasMark word line
line_has_mark word line port bytes mark a =
    record { first = a.first; between = a.between; mark = mark; words = a.words }

line_has_hex : {M : Type 0} (word : M → List ℕ) (line : List ℕ) (port : ℕ) (bytes : List ℕ) (mark : M) → IsMarkedLine word line port bytes mark → HasHex line
line_has_hex word line port bytes mark a =
    record { first = a.first; between = a.between; last = word mark; words = a.words; is_hex = a.is_hex }

line_fault : {M : Type 0} (word : M → List ℕ) → AreApart word → (line : List ℕ) (port : ℕ) (bytes : List ℕ) (mark : M) (fault : LineFault)
    → IsMarkedLine word line port bytes mark → length bytes ≤ 4200 → HasFault word line fault → ⊥
line_fault word apart line port bytes mark NoPort a short has = has (line_has_port word line port bytes mark a)
line_fault word apart line port bytes mark BadHex a short has = has.2 (line_has_hex word line port bytes mark a)
line_fault word apart line port bytes mark BadMarker a short has = has.1 (line_has_mark word line port bytes mark a)
line_fault word apart line port bytes mark TooLong a short has =
    let same = line_unambiguous word apart line port has.port bytes has.bytes mark has.mark a has.reading in
    let lengths : length bytes ≡ length has.bytes = ap (λ (b : List ℕ). length b) same.1 in
    let long = has.long in
    omega arith
line_fault word apart line port bytes mark Memory a short has = has

-- a line has one fault
one_fault : {M : Type 0} (word : M → List ℕ) (line : List ℕ) (a b : LineFault) → HasFault word line a → HasFault word line b → a ≡ b
one_fault word line NoPort NoPort x y = refl
one_fault word line NoPort BadHex x y = absurd (x y.0)
one_fault word line NoPort BadMarker x y = absurd (x y.0)
one_fault word line NoPort TooLong x y = absurd (x (line_has_port word line y.port y.bytes y.mark y.reading))
one_fault word line NoPort Memory x y = absurd y
one_fault word line BadHex NoPort x y = absurd (y x.0)
one_fault word line BadHex BadHex x y = refl
one_fault word line BadHex BadMarker x y = absurd (y.1 x.1)
one_fault word line BadHex TooLong x y = absurd (x.2 (line_has_hex word line y.port y.bytes y.mark y.reading))
one_fault word line BadHex Memory x y = absurd y
one_fault word line BadMarker NoPort x y = absurd (y x.0)
one_fault word line BadMarker BadHex x y = absurd (x.1 y.1)
one_fault word line BadMarker BadMarker x y = refl
one_fault word line BadMarker TooLong x y = absurd (x.1 (line_has_mark word line y.port y.bytes y.mark y.reading))
one_fault word line BadMarker Memory x y = absurd y
one_fault word line TooLong NoPort x y = absurd (y (line_has_port word line x.port x.bytes x.mark x.reading))
one_fault word line TooLong BadHex x y = absurd (y.2 (line_has_hex word line x.port x.bytes x.mark x.reading))
one_fault word line TooLong BadMarker x y = absurd (y.1 (line_has_mark word line x.port x.bytes x.mark x.reading))
one_fault word line TooLong TooLong x y = refl
one_fault word line TooLong Memory x y = absurd y
one_fault word line Memory b x y = absurd x

-- ---- the answers

reading_of_line : {M X : Type 0} (word : M → List ℕ) → AreApart word → (seen : X → ℕ × List ℕ × M) (line : List ℕ) (x : X)
    → IsMarkedLine word line (seen x).0 (seen x).1 (seen x).2 → length (seen x).1 ≤ 4200 → IsReading word line seen (Ok x)
reading_of_line {M} word apart seen line x a short = record {
  ok = (a, short);
  err = tt;
  reads = λ other another last b small.
      let same = line_unambiguous word apart line (seen x).0 other (seen x).1 another (seen x).2 last a b in
      ap (λ (p : ℕ). (p, (seen x).1, (seen x).2)) same.0 ∙ ap (λ (bytes : List ℕ). (other, bytes, (seen x).2)) same.1
      ∙ ap (λ (mark : M). (other, another, mark)) same.2;
  refuses = λ fault has. absurd (line_fault word apart line (seen x).0 (seen x).1 (seen x).2 fault a short has);
}

reading_of_fault : {M X : Type 0} (word : M → List ℕ) → AreApart word → (seen : X → ℕ × List ℕ × M) (line : List ℕ) (fault : LineFault)
    → HasFault word line fault → IsReading word line seen (Err fault)
reading_of_fault word apart seen line fault has = record {
  ok = tt;
  err = inr has;
  reads = λ port bytes mark a short. absurd (line_fault word apart line port bytes mark fault a short has);
  refuses = λ other is. inl (ap Err (one_fault word line fault other has is));
}

reading_of_memory : {M X : Type 0} (word : M → List ℕ) (seen : X → ℕ × List ℕ × M) (line : List ℕ) → IsReading word line seen (Err Memory)
reading_of_memory word seen line =
    record { ok = tt; err = inl refl; reads = λ port bytes mark a short. refl; refuses = λ fault has. inr refl }

-- ---- what the code found in the words

-- a line that has no parts has a fault
pub no_parts : {M X : Type 0} (word : M → List ℕ) → AreApart word → (seen : X → ℕ × List ℕ × M) (line : List ℕ) (fault : LineFault)
    → AreNoParts (words_of line) fault → IsReading word line seen (Err fault)
no_parts word apart seen line fault (inl none) =
    subst (λ (f : LineFault). IsReading word line seen (Err f)) (sym none.0)
    (reading_of_fault word apart seen line NoPort (λ has. none.1 has.first has.rest has.words has.is_port))
no_parts word apart seen line fault (inr bad) =
    let first = bad.1.0 in
    let one : words_of line ≡ first ∷ [] = bad.1.1 in
    subst (λ (f : LineFault). IsReading word line seen (Err f)) (sym bad.0)
    (reading_of_fault word apart seen line BadMarker (
      record { first = first; rest = []; words = one; is_port = bad.1.2 },
      λ has. nil_or_snoc has.between (word has.mark) (unfolding-heads [] has.first first _ [] (sym has.words ∙ one)).1,
    ))

-- the last word is the word of no mark
pub bad_mark : {M X : Type 0} (word : M → List ℕ) → AreApart word → (seen : X → ℕ × List ℕ × M) (line : List ℕ)
    (port : ℕ) (between : List (List ℕ)) (last : List ℕ) (fault : LineFault)
    → AreParts (words_of line) port between last → IsNoMark word last fault → IsReading word line seen (Err fault)
bad_mark word apart seen line port between last fault parts none =
    let whole = parts.words_are in
    subst (λ (f : LineFault). IsReading word line seen (Err f)) (sym none.0)
    (reading_of_fault word apart seen line BadMarker (
      record { first = parts.first; rest = between ++ last ∷ []; words = whole; is_port = parts.port_written.0 },
      λ has.
          let heads = unfolding-heads [] parts.first has.first _ _ (sym whole ∙ has.words) in
          none.1 has.mark (snoc_parts between has.between last (word has.mark) heads.1).1,
    ))

-- the words of a line are of the form, and that many words between write these bytes
marked_line : {M : Type 0} (word : M → List ℕ) (line : List ℕ) (port : ℕ) (between : List (List ℕ))
    (last bytes : List ℕ) (mark : M) → AreParts (words_of line) port between last → last ≡ word mark → WriteBytes between bytes
    → IsMarkedLine word line port bytes mark
marked_line word line port between last bytes mark parts marker written = record {
  first = parts.first;
  between = between;
  words = parts.words_are ∙ ap (λ text. parts.first ∷ (between ++ text ∷ [])) marker;
  is_port = parts.port_written.0;
  is_hex = written.0;
  port_written = parts.port_written.1;
  bytes_joined = written.1;
}

not_hex : {M : Type 0} (word : M → List ℕ) (line : List ℕ) (port : ℕ) (between : List (List ℕ))
    (last : List ℕ) (mark : M) → AreParts (words_of line) port between last → last ≡ word mark
    → ¬ All IsHex between → HasFault word line BadHex
not_hex word line port between last mark parts marker other =
    let whole = parts.words_are in
    let marked = whole ∙ ap (λ text. parts.first ∷ (between ++ text ∷ [])) marker in (
      record { first = parts.first; rest = between ++ last ∷ []; words = whole; is_port = parts.port_written.0 },
      record { first = parts.first; between = between; mark = mark; words = marked },
      λ has.
          let heads = unfolding-heads [] parts.first has.first _ _ (sym whole ∙ has.words) in
          let same = snoc_parts between has.between last has.last heads.1 in
          other (All-same IsHex between has.between same.0 has.is_hex),
    )

-- the words between write the bytes of no packet
pub no_bytes : {M X : Type 0} (word : M → List ℕ) → AreApart word → (seen : X → ℕ × List ℕ × M) (line : List ℕ)
    (port : ℕ) (between : List (List ℕ)) (last : List ℕ) (mark : M) (fault : LineFault)
    → AreParts (words_of line) port between last → last ≡ word mark → IsBytesFault between fault
    → IsReading word line seen (Err fault)
no_bytes word apart seen line port between last mark fault parts marker (inl (inl none)) =
    subst (λ (f : LineFault). IsReading word line seen (Err f)) (sym none) (reading_of_memory word seen line)
no_bytes word apart seen line port between last mark fault parts marker (inl (inr bad)) =
    subst (λ (f : LineFault). IsReading word line seen (Err f)) (sym bad.0)
    (reading_of_fault word apart seen line BadHex (not_hex word line port between last mark parts marker bad.1))
no_bytes word apart seen line port between last mark fault parts marker (inr long) =
    let many = long.1 in
    subst (λ (f : LineFault). IsReading word line seen (Err f)) (sym long.0)
    (reading_of_fault word apart seen line TooLong (record {
      port = port;
      bytes = many.bytes;
      mark = mark;
      reading = marked_line word line port between last many.bytes mark parts marker many.written;
      long = many.long;
    }))

-- the words of a line, and what was made of them
pub reading_of_words : {M X : Type 0} (word : M → List ℕ) → AreApart word → (seen : X → ℕ × List ℕ × M) (line : List ℕ)
    (between : List (List ℕ)) (last : List ℕ) (x : X)
    → AreParts (words_of line) (seen x).0 between last → last ≡ word (seen x).2
    → WriteBytes between (seen x).1 → length (seen x).1 ≤ 4200 → IsReading word line seen (Ok x)
reading_of_words word apart seen line between last x parts marker written short =
    reading_of_line word apart seen line x
    (marked_line word line (seen x).0 between last (seen x).1 (seen x).2 parts marker written) short
