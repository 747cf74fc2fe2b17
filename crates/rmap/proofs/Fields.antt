-- The parts of a command are its fields.
use Rattle.std.proofs.Common.{◌≡◌, ℕ, ◌+◌, ◌*◌, ◌/◌, ◌%◌, ◌<◌, List, [], ◌∷◌, ◌++◌, length, get_or, drop, refl, sym, ap, ◌∙◌, arith, length-append}
use Rattle.std.proofs.lemmas.List.{get_or_append_left, get_or-append-add}
use Rattle.std.specs.Prelude.{All}
use Rattle.byteorder.specs.Endian.{big_bytes, big_number}
use Rattle.rmap.specs.Command.{CommandValue, IsCommand, front_fields, tail_fields}

abbrev pub IsByte : ℕ → Type 0
IsByte b = b < 256

all_left : (xs ys : List ℕ) → All IsByte (xs ++ ys) → All IsByte xs
all_left xs ys h = λ k d lt.
    let within : k < length (xs ++ ys) = omega (arith, length-append xs ys) in
    rw (← get_or_append_left xs ys d k lt) (h k d within)

all_right : (xs ys : List ℕ) → All IsByte (xs ++ ys) → All IsByte ys
all_right xs ys h = λ k d lt.
    let within : length xs + k < length (xs ++ ys) = omega (arith, length-append xs ys) in
    rw (← get_or-append-add xs ys k d) (h (length xs + k) d within)

pub two : (a b : ℕ) (rest : List ℕ) → a < 256 → b < 256 → big_bytes 2 (big_number 2 (a ∷ b ∷ rest)) ≡ a ∷ b ∷ []
two a b rest la lb =
    let high : (a * 256 + (b * 1 + 0)) / 256 % 256 ≡ a = omega arith in
    let low : (a * 256 + (b * 1 + 0)) % 256 ≡ b = omega arith in
    rw (high, low) refl

three : (a b c : ℕ) (rest : List ℕ) → a < 256 → b < 256 → c < 256 → big_bytes 3 (big_number 3 (a ∷ b ∷ c ∷ rest)) ≡ a ∷ b ∷ c ∷ []
three a b c rest la lb lc =
    let high : (a * 65536 + (b * 256 + (c * 1 + 0))) / 65536 % 256 ≡ a = omega arith in
    let middle : (a * 65536 + (b * 256 + (c * 1 + 0))) / 256 % 256 ≡ b = omega arith in
    let low : (a * 65536 + (b * 256 + (c * 1 + 0))) % 256 ≡ c = omega arith in
    rw (high, middle, low) refl

pub four : (a b c d : ℕ) (rest : List ℕ) → a < 256 → b < 256 → c < 256 → d < 256 → big_bytes 4 (big_number 4 (a ∷ b ∷ c ∷ d ∷ rest)) ≡ a ∷ b ∷ c ∷ d ∷ []
four a b c d rest la lb lc ld =
    let first : (a * 16777216 + (b * 65536 + (c * 256 + (d * 1 + 0)))) / 16777216 % 256 ≡ a = omega arith in
    let second : (a * 16777216 + (b * 65536 + (c * 256 + (d * 1 + 0)))) / 65536 % 256 ≡ b = omega arith in
    let third : (a * 16777216 + (b * 65536 + (c * 256 + (d * 1 + 0)))) / 256 % 256 ≡ c = omega arith in
    let fourth : (a * 16777216 + (b * 65536 + (c * 256 + (d * 1 + 0)))) % 256 ≡ d = omega arith in
    rw (first, second, third, fourth) refl

-- a list of four is its elements
pub of_four : (xs : List ℕ) → length xs ≡ 4 → xs ≡ get_or xs 0 0 ∷ get_or xs 1 0 ∷ get_or xs 2 0 ∷ get_or xs 3 0 ∷ []
of_four (x0 ∷ x1 ∷ x2 ∷ x3 ∷ []) h = refl
of_four (x0 ∷ x1 ∷ x2 ∷ x3 ∷ x4 ∷ xs) h = let no : ⊥ = omega arith in absurd no
of_four [] h = let no : ⊥ = omega arith in absurd no
of_four (x0 ∷ []) h = let no : ⊥ = omega arith in absurd no
of_four (x0 ∷ x1 ∷ []) h = let no : ⊥ = omega arith in absurd no
of_four (x0 ∷ x1 ∷ x2 ∷ []) h = let no : ⊥ = omega arith in absurd no

same_joined : {a a' b b' c c' : List ℕ} (x y z : ℕ) → a ≡ a' → b ≡ b' → c ≡ c' → x ∷ [] ++ a ++ y ∷ [] ++ b ++ c ++ z ∷ [] ≡ x ∷ [] ++ a' ++ y ∷ [] ++ b' ++ c' ++ z ∷ []
same_joined x y z e f g = rw (e, f, g) refl

-- twelve bytes are the fields that they hold
of_twelve : (xs : List ℕ) → length xs ≡ 12 → All IsByte xs → xs ≡ get_or xs 0 0 ∷ [] ++ big_bytes 2 (big_number 2 (drop 1 xs)) ++ get_or xs 3 0 ∷ [] ++ big_bytes 4 (big_number 4 (drop 4 xs)) ++ big_bytes 3 (big_number 3 (drop 8 xs)) ++ get_or xs 11 0 ∷ []
of_twelve (x0 ∷ x1 ∷ x2 ∷ x3 ∷ x4 ∷ x5 ∷ x6 ∷ x7 ∷ x8 ∷ x9 ∷ x10 ∷ x11 ∷ []) h b =
    sym (same_joined x0 x3 x11 (two x1 x2 (x3 ∷ x4 ∷ x5 ∷ x6 ∷ x7 ∷ x8 ∷ x9 ∷ x10 ∷ x11 ∷ []) (b 1 0 (omega arith)) (b 2 0 (omega arith))) (four x4 x5 x6 x7 (x8 ∷ x9 ∷ x10 ∷ x11 ∷ []) (b 4 0 (omega arith)) (b 5 0 (omega arith)) (b 6 0 (omega arith)) (b 7 0 (omega arith))) (three x8 x9 x10 (x11 ∷ []) (b 8 0 (omega arith)) (b 9 0 (omega arith)) (b 10 0 (omega arith))))
of_twelve (x0 ∷ x1 ∷ x2 ∷ x3 ∷ x4 ∷ x5 ∷ x6 ∷ x7 ∷ x8 ∷ x9 ∷ x10 ∷ x11 ∷ x12 ∷ xs) h b = let no : ⊥ = omega arith in absurd no
of_twelve [] h b = let no : ⊥ = omega arith in absurd no
of_twelve (x0 ∷ []) h b = let no : ⊥ = omega arith in absurd no
of_twelve (x0 ∷ x1 ∷ []) h b = let no : ⊥ = omega arith in absurd no
of_twelve (x0 ∷ x1 ∷ x2 ∷ []) h b = let no : ⊥ = omega arith in absurd no
of_twelve (x0 ∷ x1 ∷ x2 ∷ x3 ∷ []) h b = let no : ⊥ = omega arith in absurd no
of_twelve (x0 ∷ x1 ∷ x2 ∷ x3 ∷ x4 ∷ []) h b = let no : ⊥ = omega arith in absurd no
of_twelve (x0 ∷ x1 ∷ x2 ∷ x3 ∷ x4 ∷ x5 ∷ []) h b = let no : ⊥ = omega arith in absurd no
of_twelve (x0 ∷ x1 ∷ x2 ∷ x3 ∷ x4 ∷ x5 ∷ x6 ∷ []) h b = let no : ⊥ = omega arith in absurd no
of_twelve (x0 ∷ x1 ∷ x2 ∷ x3 ∷ x4 ∷ x5 ∷ x6 ∷ x7 ∷ []) h b = let no : ⊥ = omega arith in absurd no
of_twelve (x0 ∷ x1 ∷ x2 ∷ x3 ∷ x4 ∷ x5 ∷ x6 ∷ x7 ∷ x8 ∷ []) h b = let no : ⊥ = omega arith in absurd no
of_twelve (x0 ∷ x1 ∷ x2 ∷ x3 ∷ x4 ∷ x5 ∷ x6 ∷ x7 ∷ x8 ∷ x9 ∷ []) h b = let no : ⊥ = omega arith in absurd no
of_twelve (x0 ∷ x1 ∷ x2 ∷ x3 ∷ x4 ∷ x5 ∷ x6 ∷ x7 ∷ x8 ∷ x9 ∷ x10 ∷ []) h b = let no : ⊥ = omega arith in absurd no

-- the bytes of a command are its fields
pub laid_out : (bytes : List ℕ) (c : CommandValue) → IsCommand bytes c → All (λ b. b < 256) bytes → bytes ≡ front_fields c ++ c.reply_address ++ tail_fields c ++ c.body
laid_out bytes c h small =
    let parts : All IsByte (c.front ++ c.reply_address ++ c.tail ++ c.body) = rw (← h.parts) small in
    let tail_bytes : All IsByte c.tail = all_right (c.front ++ c.reply_address) c.tail (all_left (c.front ++ c.reply_address ++ c.tail) c.body parts) in
    let front : c.front ≡ front_fields c = of_four c.front h.header.front in
    let tail : c.tail ≡ tail_fields c = of_twelve c.tail h.header.tail tail_bytes in
    h.parts ∙ ap (λ (f : List ℕ). f ++ c.reply_address ++ c.tail ++ c.body) front ∙ ap (λ (t : List ℕ). front_fields c ++ c.reply_address ++ t ++ c.body) tail
