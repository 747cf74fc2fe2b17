-- The bytes of a reply are read as that reply, and so are those that are written.
use Rattle.std.proofs.Common.{◌≡◌, ℕ, suc, ◌+◌, ◌-◌, ◌/◌, ◌≤◌, ◌++◌, List, [], ◌∷◌, Bool, true, false, eqb, ltb, length, get_or, take, drop, Ok, refl, sym, ap, subst, ◌∙◌, arith, length-append}
use Rattle.std.proofs.lemmas.List.{take_at, drop_at, take-append-le, get_or_append_left, get_or-append-add}
use Rattle.std.proofs.lemmas.Bool.Decides.{nat_tests}
use Rattle.std.proofs.lemmas.Bool.{le-ltb}
use Rattle.rcrc.specs.Crc.{crc_of}
use Rattle.initiator.specs.ReplyReading.{ReplyValue, IsReply, has_right_crc, has_write_form, form_length, announced_length, checked_data, reply_reading, form_reading, body_reading}

-- some bytes and their CRC end with their CRC
pub right_crc : (bytes : List ℕ) → has_right_crc (length (bytes ++ crc_of bytes ∷ [])) (bytes ++ crc_of bytes ∷ []) ≡ true
right_crc bytes =
    let count : length (bytes ++ crc_of bytes ∷ []) - 1 ≡ length bytes = omega (arith, length-append bytes (crc_of bytes ∷ [])) in
    let last : get_or (bytes ++ crc_of bytes ∷ []) (length bytes) 0 ≡ crc_of bytes = ap (λ n. get_or (bytes ++ crc_of bytes ∷ []) n 0) (omega arith) ∙ get_or-append-add bytes (crc_of bytes ∷ []) 0 0 in
    let front : take (length bytes) (bytes ++ crc_of bytes ∷ []) ≡ bytes = take_at bytes (crc_of bytes ∷ []) (length bytes) refl in
    let same : eqb (crc_of bytes) (crc_of bytes) ≡ true = grind (arith, nat_tests) in
    rw (count, last, front) same

-- what follows the header is read
body_is_read : (w : Bool) (header d : List ℕ) → length d ≡ announced_length w header → body_reading w header (checked_data w d) ≡ Ok (record { header = header; data_field = d })
body_is_read true header [] h = refl
body_is_read true header (x ∷ xs) h = let no : ⊥ = omega (arith, h) in absurd no
body_is_read false header d h =
    let count : length (d ++ crc_of d ∷ []) ≡ announced_length false header + 1 = length-append d (crc_of d ∷ []) ∙ ap (λ n. n + 1) h in
    let same : eqb (length (d ++ crc_of d ∷ [])) (announced_length false header + 1) ≡ true = grind (arith, nat_tests) in
    let crc : has_right_crc (length (d ++ crc_of d ∷ [])) (d ++ crc_of d ∷ []) ≡ true = right_crc d in
    let front : take (announced_length false header) (d ++ crc_of d ∷ []) ≡ d = take_at d (crc_of d ∷ []) (announced_length false header) h in
    rw (same, crc, front) refl

-- `n + 1` bytes of a header end with the header's CRC, whatever follows them
crc_before : (n : ℕ) (header rest : List ℕ) → length header ≡ suc n → has_right_crc (length header) header ≡ true → has_right_crc (suc n) (header ++ rest) ≡ true
crc_before n header rest long crc =
    let last : get_or (header ++ rest) n 0 ≡ get_or header n 0 = get_or_append_left header rest 0 n (omega (arith, long)) in
    let front : take n (header ++ rest) ≡ take n header = take-append-le n header rest (omega (arith, long)) in
    let place : suc n - 1 ≡ n = omega arith in
    let whole : has_right_crc (suc n) header ≡ true = subst (λ k. has_right_crc k header ≡ true) long crc in
    let right : eqb (get_or header n 0) (crc_of (take n header)) ≡ true = subst (λ k. eqb (get_or header k 0) (crc_of (take k header)) ≡ true) place whole in
    let joined : eqb (get_or (header ++ rest) n 0) (crc_of (take n (header ++ rest))) ≡ true = rw (last, front) right in
    subst (λ k. eqb (get_or (header ++ rest) k 0) (crc_of (take k (header ++ rest))) ≡ true) (sym place) joined

-- a header and what follows it are read
form_is_read : (w : Bool) (n : ℕ) (header d : List ℕ) → length header ≡ suc n → has_right_crc (length header) header ≡ true → length d ≡ announced_length w header → form_reading w (suc n) (header ++ checked_data w d) ≡ Ok (record { header = header; data_field = d })
form_is_read w n header d long crc h =
    let rest = checked_data w d in
    let whole : ltb (length (header ++ rest)) (suc n) ≡ false = le-ltb (length (header ++ rest)) (suc n) (omega (arith, long, length-append header rest)) in
    let front : take (suc n) (header ++ rest) ≡ header = take_at header rest (suc n) long in
    let back : drop (suc n) (header ++ rest) ≡ rest = drop_at header rest (suc n) long in
    let right : has_right_crc (suc n) (header ++ rest) ≡ true = crc_before n header rest long crc in
    rw (whole, right, front, back) (body_is_read w header d h)

-- the same, for the form that the header announces
announced_is_read : (w : Bool) (header d : List ℕ) → length header ≡ form_length w → has_right_crc (length header) header ≡ true → length d ≡ announced_length w header → form_reading w (form_length w) (header ++ checked_data w d) ≡ Ok (record { header = header; data_field = d })
announced_is_read true header d long crc h = form_is_read true 7 header d long crc h
announced_is_read false header d long crc h = form_is_read false 11 header d long crc h

-- a header has eight bytes or more
long_enough : (w : Bool) (header : List ℕ) → length header ≡ form_length w → 8 ≤ length header
long_enough true header long = omega (arith, long)
long_enough false header long = omega (arith, long)

-- the bytes of a reply are read as that reply
pub replies_are_read : (bytes : List ℕ) (r : ReplyValue) → IsReply bytes r → reply_reading bytes ≡ Ok r
replies_are_read bytes r h =
    let w = has_write_form r in
    let rest = checked_data w r.data_field in
    let long : 8 ≤ length r.header = long_enough w r.header h.header in
    let enough : ltb (length (r.header ++ rest)) 3 ≡ false = le-ltb (length (r.header ++ rest)) 3 (omega (arith, long, length-append r.header rest)) in
    let second : get_or (r.header ++ rest) 1 0 ≡ 1 = get_or_append_left r.header rest 0 1 (omega (arith, long)) ∙ h.protocol in
    let third : get_or (r.header ++ rest) 2 0 ≡ get_or r.header 2 0 = get_or_append_left r.header rest 0 2 (omega (arith, long)) in
    let kind : get_or r.header 2 0 / 64 ≡ 0 = h.kind in
    rw (h.parts, enough, second, third, kind) (announced_is_read w r.header r.data_field h.header h.crc h.data_length)
