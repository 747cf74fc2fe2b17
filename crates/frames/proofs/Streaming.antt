-- Frames are read as what they carry.
use Rattle.std.proofs.Common.{◌≡◌, ◌≢◌, ◌<◌, ◌≤◌, ◌⊎◌, ◌+◌, ◌-◌, ◌^◌, ℕ, zero, suc, eqb, ltb, ◌&&◌, true, false, cond, List, [], ◌∷◌, ◌++◌, length, take, refl, sym, ap, subst, ◌∙◌, arith, append_assoc, append-nil, length-append, inl, inr}
use Rattle.std.proofs.lemmas.Bool.{cases_lt, ne_eqb, eq-eqb, lt-ltb, le-ltb}
use Rattle.std.proofs.lemmas.List.{take-append-le, take_all}
use Rattle.byteorder.specs.Endian.{big_bytes, big_number}
use Rattle.byteorder.specs.Numbers.{big_number-reads_back}
use Rattle.frames.specs.declared.received.Received.{Received}
use Rattle.frames.specs.declared.flags.Flag.{Flag}
use Rattle.frames.specs.declared.flags.Flag.TheVariants.{Last, Part, SendTime, GotTime, Other}
use Rattle.frames.specs.Heads.{flag_of, head_of}
use Rattle.frames.specs.Reading.{Reading, after_end, received_of, comes, held_with, is_between, keep, next, rest_of, reading_step}
use Rattle.frames.specs.Streams.{FramesAreRead, reading_after, between, received_in, cargo_of, frame_bytes, held_after, keep_all, onto, packet_bytes, packet_received, reply_frame_of}
use Rattle.std.specs.Prelude.{All, Option, Some, None, map}
use Rattle.std.specs.List.{concat}
use Rattle.std.proofs.lemmas.List.Elements.{All-head, All-tail}
use Rattle.spw.specs.declared.packets.End.{End}
use Rattle.spw.specs.declared.packets.End.TheVariants.{Eop, Eep}
use Rattle.frames.specs.declared.received.Received.TheVariants.{Whole, Piece}
use Rattle.spw.specs.Paths.{without_path}

onto_joined : (first : Option Received) (some others : List Received) → onto first (some ++ others) ≡ onto first some ++ others
onto_joined None some others = refl
onto_joined (Some c) some others = refl

after_parts : (s : Reading) (first others : List ℕ) → reading_after s (first ++ others) ≡ reading_after (reading_after s first) others
after_parts s [] others = refl
after_parts s (byte ∷ first) others = after_parts (reading_step s byte) first others

received_parts : (s : Reading) (first others : List ℕ) → received_in s (first ++ others) ≡ received_in s first ++ received_in (reading_after s first) others
received_parts s [] others = refl
received_parts s (byte ∷ first) others =
    ap (onto (comes s byte)) (received_parts (reading_step s byte) first others)
    ∙ onto_joined (comes s byte) (received_in (reading_step s byte) first) (received_in (reading_after (reading_step s byte) first) others)

-- in the body of a frame, of which that many bytes are left
abbrev in_frame : Flag → ℕ → List ℕ → Reading
in_frame flag left held = record { head = []; flag = flag; left = left; held = held }

-- what is read if a byte left that, and what it brings
abbrev settle : Reading → Reading
settle s = cond (is_between s) (after_end s) s

abbrev brings : Reading → Option Received
brings s = cond (is_between s) (Some (received_of s.flag s.held)) None

-- a number that is not zero
positive : (n : ℕ) → eqb (suc n) 0 ≡ false
positive n = ne_eqb (suc n) 0 (λ e. let no : ⊥ = omega (arith, e) in no)

-- a byte of a body that is not its last
step_from : (flag : Flag) (n m : ℕ) (held : List ℕ) (byte : ℕ) → eqb n 0 ≡ false → n - 1 ≡ m → eqb m 0 ≡ false → reading_step (in_frame flag n held) byte ≡ in_frame flag m (held_with flag held byte)
step_from flag n m held byte e f g = rw (e, f, g) refl

comes_from : (flag : Flag) (n m : ℕ) (held : List ℕ) (byte : ℕ) → eqb n 0 ≡ false → n - 1 ≡ m → eqb m 0 ≡ false → comes (in_frame flag n held) byte ≡ None
comes_from flag n m held byte e f g = rw (e, f, g) refl

step_inside : (flag : Flag) (n : ℕ) (held : List ℕ) (byte : ℕ) → reading_step (in_frame flag (suc (suc n)) held) byte ≡ in_frame flag (suc n) (held_with flag held byte)
step_inside flag n held byte = step_from flag (suc (suc n)) (suc n) held byte (positive (suc n)) (omega arith) (positive n)

comes_inside : (flag : Flag) (n : ℕ) (held : List ℕ) (byte : ℕ) → comes (in_frame flag (suc (suc n)) held) byte ≡ None
comes_inside flag n held byte = comes_from flag (suc (suc n)) (suc n) held byte (positive (suc n)) (omega arith) (positive n)

settle_inside : (flag : Flag) (n : ℕ) (held : List ℕ) → settle (in_frame flag (suc n) held) ≡ in_frame flag (suc n) held
settle_inside flag n held = rw (positive n) refl

brings_inside : (flag : Flag) (n : ℕ) (held : List ℕ) → brings (in_frame flag (suc n) held) ≡ None
brings_inside flag n held = rw (positive n) refl

pub held_more : (flag : Flag) (held : List ℕ) (byte : ℕ) (bytes : List ℕ) → held_after flag (held_with flag held byte) bytes ≡ held_after flag held (byte ∷ bytes)
held_more (Last end) held byte bytes = refl
held_more Part held byte bytes = refl
held_more SendTime held byte bytes = refl
held_more GotTime held byte bytes = refl
held_more (Other code) held byte bytes = refl

body_after : (flag : Flag) (held : List ℕ) (byte : ℕ) (bytes : List ℕ) → reading_after (in_frame flag (suc (length bytes)) held) (byte ∷ bytes) ≡ between flag (rest_of flag (held_after flag held (byte ∷ bytes)))
body_after flag held byte [] = refl
body_after flag held byte (another ∷ bytes) =
    ap (λ (s : Reading). reading_after s (another ∷ bytes)) (step_inside flag (length bytes) held byte)
    ∙ body_after flag (held_with flag held byte) another bytes
    ∙ ap (λ (h : List ℕ). between flag (rest_of flag h)) (held_more flag held byte (another ∷ bytes))

body_received : (flag : Flag) (held : List ℕ) (byte : ℕ) (bytes : List ℕ) → received_in (in_frame flag (suc (length bytes)) held) (byte ∷ bytes) ≡ received_of flag (held_after flag held (byte ∷ bytes)) ∷ []
body_received flag held byte [] = refl
body_received flag held byte (another ∷ bytes) =
    ap (λ (first : Option Received). onto first (received_in (reading_step (in_frame flag (suc (suc (length bytes))) held) byte) (another ∷ bytes))) (comes_inside flag (length bytes) held byte)
    ∙ ap (λ (s : Reading). received_in s (another ∷ bytes)) (step_inside flag (length bytes) held byte)
    ∙ body_received flag (held_with flag held byte) another bytes
    ∙ ap (λ (h : List ℕ). received_of flag h ∷ []) (held_more flag held byte (another ∷ bytes))

-- what is read after the last byte of a head
frame_after : (flag : Flag) (held body : List ℕ) → reading_after (settle (in_frame flag (length body) held)) body ≡ between flag (rest_of flag (held_after flag held body))
frame_after (Last end) held [] = refl
frame_after Part held [] = refl
frame_after SendTime held [] = refl
frame_after GotTime held [] = refl
frame_after (Other code) held [] = refl
frame_after flag held (byte ∷ bytes) =
    ap (λ (s : Reading). reading_after s (byte ∷ bytes)) (settle_inside flag (length bytes) held) ∙ body_after flag held byte bytes

frame_received : (flag : Flag) (held body : List ℕ) → onto (brings (in_frame flag (length body) held)) (received_in (settle (in_frame flag (length body) held)) body) ≡ received_of flag (held_after flag held body) ∷ []
frame_received (Last end) held [] = refl
frame_received Part held [] = refl
frame_received SendTime held [] = refl
frame_received GotTime held [] = refl
frame_received (Other code) held [] = refl
frame_received flag held (byte ∷ bytes) =
    ap (λ (first : Option Received). onto first (received_in (settle (in_frame flag (suc (length bytes)) held)) (byte ∷ bytes))) (brings_inside flag (length bytes) held)
    ∙ ap (λ (s : Reading). received_in s (byte ∷ bytes)) (settle_inside flag (length bytes) held)
    ∙ body_received flag held byte bytes

-- the head of a frame of n bytes
head_read : (last : Flag) (held : List ℕ) (code reserved n : ℕ) → n < 256 ^ 10 → reading_after (between last held) (code ∷ reserved ∷ big_bytes 10 n) ≡ settle (in_frame (flag_of code) n held)
head_read last held code reserved n few =
    ap (λ (m : ℕ). settle (in_frame (flag_of code) m held)) (big_number-reads_back 10 n [] few)

head_received : (last : Flag) (held : List ℕ) (code reserved n : ℕ) → n < 256 ^ 10 → received_in (between last held) (code ∷ reserved ∷ big_bytes 10 n) ≡ onto (brings (in_frame (flag_of code) n held)) []
head_received last held code reserved n few =
    ap (λ (m : ℕ). onto (brings (in_frame (flag_of code) m held)) []) (big_number-reads_back 10 n [] few)

onto_empty : (first : Option Received) (others : List Received) → onto first [] ++ others ≡ onto first others
onto_empty None others = refl
onto_empty (Some c) others = refl

read : (last : Flag) (held : List ℕ) (code reserved : ℕ) (body : List ℕ) → length body < 256 ^ 10 → reading_after (between last held) (frame_bytes code reserved body) ≡ between (flag_of code) (rest_of (flag_of code) (held_after (flag_of code) held body))
read last held code reserved body few =
    after_parts (between last held) (code ∷ reserved ∷ big_bytes 10 (length body)) body
    ∙ ap (λ (s : Reading). reading_after s body) (head_read last held code reserved (length body) few)
    ∙ frame_after (flag_of code) held body

brought : (last : Flag) (held : List ℕ) (code reserved : ℕ) (body : List ℕ) → length body < 256 ^ 10 → received_in (between last held) (frame_bytes code reserved body) ≡ received_of (flag_of code) (held_after (flag_of code) held body) ∷ []
brought last held code reserved body few =
    received_parts (between last held) (code ∷ reserved ∷ big_bytes 10 (length body)) body
    ∙ ap (λ (received : List Received). received ++ received_in (reading_after (between last held) (code ∷ reserved ∷ big_bytes 10 (length body))) body) (head_received last held code reserved (length body) few)
    ∙ ap (λ (s : Reading). onto (brings (in_frame (flag_of code) (length body) held)) [] ++ received_in s body) (head_read last held code reserved (length body) few)
    ∙ onto_empty (brings (in_frame (flag_of code) (length body) held)) (received_in (settle (in_frame (flag_of code) (length body) held)) body)
    ∙ frame_received (flag_of code) held body

-- the same for any number of bytes at most
abbrev keep_in : ℕ → List ℕ → ℕ → List ℕ
keep_in most held byte = cond (eqb (length held) 0 && ltb byte 32) held (cond (ltb (length held) most) (held ++ byte ∷ []) held)

abbrev keep_all_in : ℕ → List ℕ → List ℕ → List ℕ
keep_all_in most held [] = held
keep_all_in most held (byte ∷ bytes) = keep_all_in most (keep_in most held byte) bytes

keep_short : (most first : ℕ) (held : List ℕ) (byte : ℕ) → length (first ∷ held) < most → keep_in most (first ∷ held) byte ≡ (first ∷ held) ++ byte ∷ []
keep_short most first held byte short = rw (positive (length held), lt-ltb (length (first ∷ held)) most short) refl

keep_long : (most first : ℕ) (held : List ℕ) (byte : ℕ) → most ≤ length (first ∷ held) → keep_in most (first ∷ held) byte ≡ first ∷ held
keep_long most first held byte long = rw (positive (length held), le-ltb (length (first ∷ held)) most long) refl

-- after its first byte a packet is kept up to that many bytes
keep_more : (most first : ℕ) (held bytes : List ℕ) → length (first ∷ held) ≤ most → keep_all_in most (first ∷ held) bytes ≡ take most ((first ∷ held) ++ bytes)
keep_more most first held [] few = sym (ap (take most) (append-nil (first ∷ held)) ∙ take_all most (first ∷ held) few)
keep_more most first held (byte ∷ bytes) few =
    elim (cases_lt (length (first ∷ held)) most) [
      | inl short ↦
          ap (λ (h : List ℕ). keep_all_in most h bytes) (keep_short most first held byte short)
          ∙ keep_more most first (held ++ byte ∷ []) bytes (omega (arith, length-append held (byte ∷ []), short))
          ∙ ap (take most) (append_assoc (first ∷ held) (byte ∷ []) bytes)
      | inr long ↦
          ap (λ (h : List ℕ). keep_all_in most h bytes) (keep_long most first held byte long)
          ∙ keep_more most first held bytes few
          ∙ take-append-le most (first ∷ held) bytes long
          ∙ sym (take-append-le most (first ∷ held) (byte ∷ bytes) long)
    ]

keep_first : (most byte : ℕ) → 0 < most → 32 ≤ byte → keep_in most [] byte ≡ byte ∷ []
keep_first most byte some no_path = rw (le-ltb byte 32 no_path, lt-ltb 0 most some) refl

keep_path : (most byte : ℕ) → byte < 32 → keep_in most [] byte ≡ []
keep_path most byte path = rw (lt-ltb byte 32 path) refl

after_first : (byte : ℕ) (bytes : List ℕ) → 32 ≤ byte → without_path (byte ∷ bytes) ≡ byte ∷ bytes
after_first byte bytes no_path = rw (le-ltb byte 32 no_path) refl

after_more : (byte : ℕ) (bytes : List ℕ) → byte < 32 → without_path (byte ∷ bytes) ≡ without_path bytes
after_more byte bytes path = rw (lt-ltb byte 32 path) refl

take_none : (most : ℕ) → take most (without_path []) ≡ []
take_none zero = refl
take_none (suc n) = refl

kept_in : (most : ℕ) (bytes : List ℕ) → 0 < most → keep_all_in most [] bytes ≡ take most (without_path bytes)
kept_in most [] some = sym (take_none most)
kept_in most (byte ∷ bytes) some =
    elim (cases_lt byte 32) [
      | inl path ↦
          ap (λ (h : List ℕ). keep_all_in most h bytes) (keep_path most byte path)
          ∙ kept_in most bytes some
          ∙ sym (ap (take most) (after_more byte bytes path))
      | inr no_path ↦
          ap (λ (h : List ℕ). keep_all_in most h bytes) (keep_first most byte some no_path)
          ∙ keep_more most byte [] bytes (omega (arith, some))
          ∙ sym (ap (take most) (after_first byte bytes no_path))
    ]

same_kept : (held bytes : List ℕ) → keep_all held bytes ≡ keep_all_in 4200 held bytes
same_kept held [] = refl
same_kept held (byte ∷ bytes) = same_kept (keep held byte) bytes

kept : (bytes : List ℕ) → keep_all [] bytes ≡ cargo_of bytes
kept bytes = same_kept [] bytes ∙ kept_in 4200 bytes (omega arith)

keep_parts : (held first others : List ℕ) → keep_all held (first ++ others) ≡ keep_all (keep_all held first) others
keep_parts held [] others = refl
keep_parts held (byte ∷ first) others = keep_parts (keep held byte) first others

-- the pieces of a packet after what is held of it
packet_read : (before : Flag) (held : List ℕ) (pieces : List (List ℕ)) (last : List ℕ) (end : End) → All (λ piece. length piece < 256 ^ 10) pieces → length last < 256 ^ 10 → reading_after (between before held) (packet_bytes pieces last end) ≡ between (Last end) []
packet_read before held [] last Eop few short = read before held 0 0 last short
packet_read before held [] last Eep few short = read before held 1 0 last short
packet_read before held (piece ∷ pieces) last end few short =
    after_parts (between before held) (frame_bytes 2 0 piece) (packet_bytes pieces last end)
    ∙ ap (λ (s : Reading). reading_after s (packet_bytes pieces last end)) (read before held 2 0 piece (All-head (λ (p : List ℕ). length p < 256 ^ 10) piece pieces few))
    ∙ packet_read Part (keep_all held piece) pieces last end (All-tail (λ (p : List ℕ). length p < 256 ^ 10) piece pieces few) short

packet_brought : (before : Flag) (held : List ℕ) (pieces : List (List ℕ)) (last : List ℕ) (end : End) → All (λ piece. length piece < 256 ^ 10) pieces → length last < 256 ^ 10 → received_in (between before held) (packet_bytes pieces last end) ≡ map (λ (piece : List ℕ). Piece) pieces ++ Whole (record { bytes = keep_all held (concat pieces ++ last); end = end }) ∷ []
packet_brought before held [] last Eop few short = brought before held 0 0 last short
packet_brought before held [] last Eep few short = brought before held 1 0 last short
packet_brought before held (piece ∷ pieces) last end few short =
    received_parts (between before held) (frame_bytes 2 0 piece) (packet_bytes pieces last end)
    ∙ ap (λ (received : List Received). received ++ received_in (reading_after (between before held) (frame_bytes 2 0 piece)) (packet_bytes pieces last end)) (brought before held 2 0 piece (All-head (λ (p : List ℕ). length p < 256 ^ 10) piece pieces few))
    ∙ ap (λ (s : Reading). Piece ∷ received_in s (packet_bytes pieces last end)) (read before held 2 0 piece (All-head (λ (p : List ℕ). length p < 256 ^ 10) piece pieces few))
    ∙ ap (λ (received : List Received). Piece ∷ received) (packet_brought Part (keep_all held piece) pieces last end (All-tail (λ (p : List ℕ). length p < 256 ^ 10) piece pieces few) short)
    ∙ ap (λ (bytes : List ℕ). Piece ∷ (map (λ (p : List ℕ). Piece) pieces ++ Whole (record { bytes = bytes; end = end }) ∷ [])) (sym (keep_parts held piece (concat pieces ++ last)) ∙ ap (keep_all held) (sym (append_assoc piece (concat pieces) last)))

packet : (before : Flag) (pieces : List (List ℕ)) (last : List ℕ) (end : End) → All (λ piece. length piece < 256 ^ 10) pieces → length last < 256 ^ 10 → (reading_after (between before []) (packet_bytes pieces last end) ≡ between (Last end) []) × (received_in (between before []) (packet_bytes pieces last end) ≡ packet_received pieces last end)
packet before pieces last end few short = (
  packet_read before [] pieces last end few short,
  packet_brought before [] pieces last end few short
      ∙ ap (λ (bytes : List ℕ). map (λ (piece : List ℕ). Piece) pieces ++ Whole (record { bytes = bytes; end = end }) ∷ []) (kept (concat pieces ++ last)),
)

-- what is held of a packet after some of it
pub kept_first : (bytes : List ℕ) → keep_all [] bytes ≡ take 4200 (without_path bytes)
kept_first bytes = kept bytes

pub kept_from : (held bytes : List ℕ) → held ≢ [] → length held ≤ 4200 → keep_all held bytes ≡ take 4200 (held ++ bytes)
kept_from [] bytes some few = absurd (some refl)
kept_from (first ∷ held) bytes some few = same_kept (first ∷ held) bytes ∙ keep_more 4200 first held bytes few

-- a reply without a path is held as it is
reply_read : (before : Flag) (reply : List ℕ) → without_path reply ≡ reply → length reply ≤ 4200 → received_in (between before []) (reply_frame_of reply) ≡ Whole (record { bytes = reply; end = Eop }) ∷ []
reply_read before reply plain short =
    let few : length reply < 256 ^ 10 = omega (arith, short) in
    let held : keep_all [] reply ≡ reply = kept reply ∙ ap (take 4200) plain ∙ take_all 4200 reply short in
    brought before [] 0 0 reply few ∙ ap (λ (bytes : List ℕ). Whole (record { bytes = bytes; end = Eop }) ∷ []) held

pub streams : FramesAreRead
streams = record { parts = after_parts; received = received_parts; read = read; brought = brought; packet = packet; reply = reply_read; kept = kept }
