-- Laws of what a reader has left, and of the text that is given of what was read.
use Rattle.std.proofs.Common.{◌≡◌, ◌≢◌, ℕ, zero, suc, Bool, true, false, List, [], ◌∷◌, ◌++◌, Option, Some, None, All, map, take, length, nat_le, if◌then◌else◌, refl, sym, ap, ◌∙◌, append_assoc}
use Rattle.std.proofs.lemmas.List.{map-append}
use Rattle.std.proofs.Math.Dec.{leb-zero, leb-suc-suc, leb-suc-zero}
use Rattle.std.proofs.lemmas.List.Elements.{All-append, All-cons, All-nil}
use Rattle.std.specs.Io.KnownBytes.{Consumes, Keeps}
use Rattle.job_live.specs.declared.answering.TheConstants.{MAX_LINE}
use Rattle.job_live.specs.HostLines.{given_byte, given_text, text_with}

-- what is left stays as it is
pub keeps_same : (a : Option (List ℕ)) → Keeps a a
keeps_same None = tt
keeps_same (Some xs) = refl

-- what stays twice stays
pub keeps_on : (a b c : Option (List ℕ)) → Keeps a b → Keeps b c → Keeps a c
keeps_on None b c h k = tt
keeps_on (Some xs) None c h k = absurd h
keeps_on (Some xs) (Some ys) None h k = absurd k
keeps_on (Some xs) (Some ys) (Some zs) h k = k ∙ h

-- what was read of what stayed
pub keeps_read : (a b c : Option (List ℕ)) (bytes : List ℕ) → Keeps a b → Consumes b c bytes → Consumes a c bytes
keeps_read None b c bytes h k = tt
keeps_read (Some xs) None c bytes h k = absurd h
keeps_read (Some xs) (Some ys) None bytes h k = absurd k
keeps_read (Some xs) (Some ys) (Some zs) bytes h k = sym h ∙ k

-- what was read in two reads, one after the other
pub reads_more : (a b c : Option (List ℕ)) (first then_ : List ℕ) → Consumes a b first → Consumes b c then_ → Consumes a c (first ++ then_)
reads_more None b c first then_ h k = tt
reads_more (Some xs) None c first then_ h k = absurd h
reads_more (Some xs) (Some ys) None first then_ h k = absurd k
reads_more (Some xs) (Some ys) (Some zs) first then_ h k = h ∙ ap (λ rest. first ++ rest) k ∙ sym (append_assoc first then_ zs)

-- one more byte of a line
pub still_line : (bytes : List ℕ) (byte : ℕ) → All (λ it. it ≢ 10) bytes → byte ≢ 10 → All (λ it. it ≢ 10) (bytes ++ byte ∷ [])
still_line bytes byte h other =
    All-append (λ it. it ≢ 10) bytes (byte ∷ []) h (All-cons (λ it. it ≢ 10) byte [] other (All-nil (λ it. it ≢ 10)))

-- an item in front of either
before_either : (b : Bool) (xs ys zs : List ℕ) (x : ℕ) → (if b then xs else ys) ≡ zs → (if b then x ∷ xs else x ∷ ys) ≡ x ∷ zs
before_either true xs ys zs x h = ap (λ rest. x ∷ rest) h
before_either false xs ys zs x h = ap (λ rest. x ∷ rest) h

-- the first items, with one more
first_with : (n : ℕ) (xs : List ℕ) (x : ℕ) → (if nat_le (length (take (suc n) xs)) n then take (suc n) xs ++ x ∷ [] else take (suc n) xs) ≡ take (suc n) (xs ++ x ∷ [])
first_with zero [] x = ap (λ is_few. if is_few then x ∷ [] else []) (leb-zero zero)
first_with (suc n) [] x = ap (λ is_few. if is_few then x ∷ [] else []) (leb-zero (suc n))
first_with zero (y ∷ ys) x = ap (λ is_few. if is_few then y ∷ x ∷ [] else y ∷ []) (leb-suc-zero zero)
first_with (suc n) (y ∷ ys) x =
    ap (λ is_few. if is_few then y ∷ (take (suc n) ys ++ x ∷ []) else y ∷ take (suc n) ys) (leb-suc-suc (length (take (suc n) ys)) n)
    ∙ before_either (nat_le (length (take (suc n) ys)) n) (take (suc n) ys ++ x ∷ []) (take (suc n) ys) _ y (first_with n ys x)

-- what is given of a line with one more byte
pub gives_more : (bytes : List ℕ) (byte : ℕ) → text_with (given_text bytes) byte ≡ given_text (bytes ++ byte ∷ [])
gives_more bytes byte =
    first_with MAX_LINE (map given_byte bytes) (given_byte byte)
    ∙ ap (take (suc MAX_LINE)) (sym (map-append given_byte bytes (byte ∷ [])))
