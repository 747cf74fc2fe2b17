-- Digits that are put together, block by block and chunk by chunk.
use Rattle.std.proofs.Common.{◌≡◌, ℕ, zero, suc, ◌+◌, ◌*◌, ◌/◌, ◌<◌, ◌≤◌, List, [], ◌∷◌, ◌++◌, length, take, drop, get_or, Option, Ok, Err, refl, sym, ap, subst, ◌∙◌, arith, append_assoc, append-nil}
use Rattle.std.specs.Prelude.{Result, OnOk}
use Rattle.std.specs.Io.KnownBytes.{Appends}
use Rattle.std.specs.List.{concat}
use Rattle.std.specs.Simd.{first_chunks}
use Rattle.std.proofs.KnownBytes.{Appends-nil, Appends-trans}
use Rattle.std.proofs.Math.Seq.{take-suc}
use Rattle.std.proofs.lemmas.List.{drop-drop, length-append, length-drop, length-take-le, take-append-drop}
use Rattle.std.proofs.lemmas.List.Folds.{concat-append}
use Rattle.hex.specs.Hex.{encode_upper}
use Rattle.job_parts.proofs.HexText.{digits_both, no_digits, text_long}

-- ---- blocks in turn

concat_more : (i : ℕ) (blocks : List (List ℕ)) → i < length blocks → concat (take (i + 1) blocks) ≡ concat (take i blocks) ++ get_or blocks i []
concat_more i blocks below =
    let next : i + 1 ≡ suc i = omega arith in
    ap (λ k. concat (take k blocks)) next ∙ ap concat (take-suc blocks i [] below) ∙ concat-append (take i blocks) (get_or blocks i [] ∷ [])
    ∙ ap (λ (block : List ℕ). concat (take i blocks) ++ block) (append-nil (get_or blocks i []))

front_short : (i : ℕ) (blocks : List (List ℕ)) → length (concat (take i blocks)) ≤ length (concat blocks)
front_short zero blocks = omega arith
front_short (suc i) [] = omega arith
front_short (suc i) (block ∷ blocks) =
    let rest = front_short i blocks in
    omega (arith, rest, length-append block (concat (take i blocks)), length-append block (concat blocks))

-- the text of the blocks before the place i comes after what was there
abbrev pub AreJoined : ℕ → List (List ℕ) → (before after : List ℕ) → Type 0
AreJoined i blocks before after = after ≡ before ++ encode_upper (concat (take i blocks))

pub none_joined : (blocks : List (List ℕ)) (before : List ℕ) → AreJoined 0 blocks before before
none_joined blocks before = sym (ap (λ (t : List ℕ). before ++ t) no_digits ∙ append-nil before)

-- one block more
pub one_joined : (i : ℕ) (blocks : List (List ℕ)) (before mid after : List ℕ) → i < length blocks → AreJoined i blocks before mid
    → after ≡ mid ++ encode_upper (get_or blocks i []) → AreJoined (i + 1) blocks before after
one_joined i blocks before mid after below was is =
    let block = get_or blocks i [] in
    is ∙ ap (λ (m : List ℕ). m ++ encode_upper block) was ∙ append_assoc before (encode_upper (concat (take i blocks))) (encode_upper block)
    ∙ ap (λ (t : List ℕ). before ++ t) (sym (ap encode_upper (concat_more i blocks below) ∙ digits_both (concat (take i blocks)) block))

module _ (bytes rest : List ℕ) (blocks : List (List ℕ)) (parts : concat blocks ++ rest ≡ bytes) where
  -- there is room for the next block
  pub room_for : (i : ℕ) (before after : List ℕ) → i < length blocks → AreJoined i blocks before after → length before + 2 * length bytes ≤ 144
      → length (get_or blocks i []) ≡ 16 → length after + 2 * 16 ≤ 144
  room_for i before after below was room long =
      let block = get_or blocks i [] in
      let front = concat (take i blocks) in
      let next = front_short (i + 1) blocks in
      let more : length (concat (take (i + 1) blocks)) ≡ length (front ++ block) = ap (λ (l : List ℕ). length l) (concat_more i blocks below) in
      let all : length (concat blocks ++ rest) ≡ length bytes = ap (λ (l : List ℕ). length l) parts in
      let is : length after ≡ length (before ++ encode_upper front) = ap (λ (l : List ℕ). length l) was in
      omega (arith, next, more, all, is, room, long, text_long front, length-append front block, length-append (concat blocks) rest, length-append before (encode_upper front))

  module _ (done : List (List ℕ)) (whole : done ≡ blocks) where
    all_parts : concat done ++ rest ≡ bytes
    all_parts = ap (λ (bs : List (List ℕ)). concat bs ++ rest) whole ∙ parts

    -- there is room for what is after the blocks
    pub room_after_blocks : (before after : List ℕ) → after ≡ before ++ encode_upper (concat done) → length before + 2 * length bytes ≤ 144
        → length after + 2 * length rest ≤ 144
    room_after_blocks before after was room =
        let all : length (concat done ++ rest) ≡ length bytes = ap (λ (l : List ℕ). length l) all_parts in
        let is : length after ≡ length (before ++ encode_upper (concat done)) = ap (λ (l : List ℕ). length l) was in
        omega (arith, all, is, room, text_long (concat done), length-append (concat done) rest, length-append before (encode_upper (concat done)))

    -- the text of all bytes
    pub all_joined : (before mid after : List ℕ) → mid ≡ before ++ encode_upper (concat done) → after ≡ mid ++ encode_upper rest
        → after ≡ before ++ encode_upper bytes
    all_joined before mid after was is =
        is ∙ ap (λ (m : List ℕ). m ++ encode_upper rest) was ∙ append_assoc before (encode_upper (concat done)) (encode_upper rest)
        ∙ ap (λ (t : List ℕ). before ++ t) (sym (digits_both (concat done) rest) ∙ ap encode_upper all_parts)

-- how long each block is
each_block : (k i : ℕ) (bytes : List ℕ) → k * 16 ≤ length bytes → i < k → length (get_or (first_chunks 16 k bytes) i []) ≡ 16
each_block zero i bytes fits below = absurd (omega (arith, below))
each_block (suc k) zero bytes fits below = length-take-le 16 bytes (omega (arith, fits))
each_block (suc k) (suc i) bytes fits below = each_block k i (drop 16 bytes) (omega (arith, fits, length-drop 16 bytes)) (omega (arith, below))

pub block_long : (bytes : List ℕ) (blocks : List (List ℕ)) (i : ℕ) → blocks ≡ first_chunks 16 (length bytes / 16) bytes → length blocks ≡ length bytes / 16
    → i < length blocks → length (get_or blocks i []) ≡ 16
block_long bytes blocks i cut many below =
    ap (λ (bs : List (List ℕ)). length (get_or bs i [])) cut ∙ each_block (length bytes / 16) i bytes (omega arith) (omega (arith, many, below))

-- ---- chunks that are printed in turn

each_chunk : (k i : ℕ) (bytes : List ℕ) → k * 64 ≤ length bytes → i < k → length (get_or (first_chunks 64 k bytes) i []) ≡ 64
each_chunk zero i bytes fits below = absurd (omega (arith, below))
each_chunk (suc k) zero bytes fits below = length-take-le 64 bytes (omega (arith, fits))
each_chunk (suc k) (suc i) bytes fits below = each_chunk k i (drop 64 bytes) (omega (arith, fits, length-drop 64 bytes)) (omega (arith, below))

pub chunk_long : (bytes : List ℕ) (chunks : List (List ℕ)) (i : ℕ) → chunks ≡ first_chunks 64 (length bytes / 64) bytes → length chunks ≡ length bytes / 64
    → i < length chunks → length (get_or chunks i []) ≡ 64
chunk_long bytes chunks i cut many below =
    ap (λ (bs : List (List ℕ)). length (get_or bs i [])) cut ∙ each_chunk (length bytes / 64) i bytes (omega arith) (omega (arith, many, below))

-- the end of the text fits after what is left
pub end_fits : (waits text rest following : List ℕ) → length waits ≤ 4 → length rest < 64 → length following ≤ 5 → text ≡ waits ++ encode_upper rest
    → length text + length following ≤ 144
end_fits waits text rest following few short end is =
    let long : length text ≡ length (waits ++ encode_upper rest) = ap (λ (l : List ℕ). length l) is in
    omega (arith, long, few, short, end, text_long rest, length-append waits (encode_upper rest))

pub chunks_and_rest : (k : ℕ) (bytes : List ℕ) → k * 64 ≤ length bytes → concat (first_chunks 64 k bytes) ++ drop (k * 64) bytes ≡ bytes
chunks_and_rest zero bytes fits = refl
chunks_and_rest (suc k) bytes fits =
    let next : suc k * 64 ≡ 64 + k * 64 = omega arith in
    append_assoc (take 64 bytes) (concat (first_chunks 64 k (drop 64 bytes))) (drop (suc k * 64) bytes)
    ∙ ap (λ (rest : List ℕ). take 64 bytes ++ (concat (first_chunks 64 k (drop 64 bytes)) ++ rest)) (ap (λ j. drop j bytes) next ∙ sym (drop-drop (k * 64) 64 bytes))
    ∙ ap (λ (rest : List ℕ). take 64 bytes ++ rest) (chunks_and_rest k (drop 64 bytes) (omega (arith, fits, length-drop 64 bytes)))
    ∙ take-append-drop 64 bytes

-- the text begins with the front and the digits of chunks: some of it was printed, and the rest waits
pub record IsUnderWay (front : List ℕ) (i : ℕ) (chunks : List (List ℕ)) (old new : Option (List ℕ)) (waits : List ℕ) : Type 0 where
  pub printed : List ℕ
  pub appends : Appends old new printed
  pub joined : AreJoined i chunks front (printed ++ waits)

pub none_printed : (front : List ℕ) (chunks : List (List ℕ)) (old : Option (List ℕ)) → IsUnderWay front 0 chunks old old front
none_printed front chunks old = record { printed = []; appends = Appends-nil old; joined = none_joined chunks front }

-- one chunk more
pub one_printed : (front : List ℕ) (i : ℕ) (chunks : List (List ℕ)) (old mid new : Option (List ℕ)) (waits text left : List ℕ) → i < length chunks
    → IsUnderWay front i chunks old mid waits → text ≡ waits ++ encode_upper (get_or chunks i []) → Appends mid new text → left ≡ []
    → IsUnderWay front (i + 1) chunks old new left
one_printed front i chunks old mid new waits text left below was is one none =
    let chunk = get_or chunks i [] in
    record {
      printed = was.printed ++ text;
      appends = Appends-trans old mid new was.printed text was.appends one;
      joined = one_joined i chunks front (was.printed ++ waits) _ below was.joined (
          ap (λ (l : List ℕ). (was.printed ++ text) ++ l) none ∙ append-nil (was.printed ++ text)
          ∙ ap (λ (t : List ℕ). was.printed ++ t) is ∙ sym (append_assoc was.printed waits (encode_upper chunk)));
    }

-- all chunks, what is after them, and the end
pub all_printed : {E : Type 0} (front bytes rest following waits text whole : List ℕ) (i : ℕ) (chunks : List (List ℕ)) (old mid new : Option (List ℕ)) (answer : Result (Unit {0}) E)
    → concat chunks ++ rest ≡ bytes → take i chunks ≡ chunks → IsUnderWay front i chunks old mid waits → text ≡ waits ++ encode_upper rest → whole ≡ text ++ following
    → OnOk answer (Appends mid new whole) → OnOk answer (Appends old new (front ++ encode_upper bytes ++ following))
all_printed front bytes rest following waits text whole i chunks old mid new (Err fault) parts all was is end last = tt
all_printed front bytes rest following waits text whole i chunks old mid new (Ok x) parts all was is end last =
    let joined = all_joined bytes rest chunks parts (take i chunks) all front (was.printed ++ waits) (was.printed ++ text) was.joined
    (ap (λ (t : List ℕ). was.printed ++ t) is ∙ sym (append_assoc was.printed waits (encode_upper rest))) in
    subst (λ (t : List ℕ). Appends old new t)
    (ap (λ (w : List ℕ). was.printed ++ w) end ∙ sym (append_assoc was.printed text following) ∙ ap (λ (t : List ℕ). t ++ following) joined)
    (Appends-trans old mid new was.printed whole was.appends last)
