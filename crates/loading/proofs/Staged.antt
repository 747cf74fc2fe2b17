-- The parts of an image, written one after the other to the staging of a port.
use Rattle.std.proofs.Common.{◌≡◌, ◌<◌, ◌≤◌, ◌+◌, ◌*◌, ◌-◌, ◌++◌, ◌∷◌, [], ℕ, suc, List, true, length, get_or, take, drop, set, Some, None, inl, inr, refl, sym, ap, subst, ◌∙◌, arith}
use Rattle.std.specs.Prelude.{slice_get}
use Rattle.std.proofs.lemmas.Bool.{cases_lt}
use Rattle.std.proofs.lemmas.List.{ext_get_or, get_or-drop, get_or-set_same, get_or-take, length-drop, length-set, length-take, set-set}
use Rattle.std.proofs.lemmas.Option.{slice_get-get_or}
use Rattle.spw.specs.Cargo.{Cargo}
use Rattle.rmap.specs.declared.kind.Kind.TheVariants.{Write}
use Rattle.rmap.specs.declared.places.Place.{Place}
use Rattle.rmap.specs.declared.places.Place.TheVariants.{Staging}
use Rattle.rmap.specs.Command.{CommandValue}
use Rattle.rmap.specs.Laws.{CommandsAreKept}
use Rattle.rmap.specs.Reply.{with_crc}
use Rattle.rmap.specs.Windows.{WindowsValue}
use Rattle.bank.specs.Effect.{Memory, after_write, memory_at}
use Rattle.bank.specs.Answer.{answer}
use Rattle.bank.specs.Records.{answer_on}
use Rattle.initiator.specs.Laws.{MadeCommandsAreRead}
use Rattle.initiator.specs.LoadPackets.{LoadPacketsAreTaken}
use Rattle.initiator.specs.Loads.{part_count, part_of, stage_request}
use Rattle.node_programs.specs.Staged.{Staged}
use Rattle.node_parts.specs.Passes.{PassValue}
use Rattle.node_parts.specs.Stagings.{after_place}
use Rattle.single_node.specs.Nodes.{SingleNodeValue}
use Rattle.loading.specs.Sent.{IsSent}
use Rattle.loading.specs.Served.{LetsPassInTurn}
use Rattle.loading.proofs.Bytes.{byte_before, byte_written, length_stays, written}
use Rattle.loading.proofs.Commands.{IsPart, IsTaken, is_part}
use Rattle.loading.proofs.Passed.{EndsWell, IsPassed, passed}

-- a node that differs from the one before in what one port has, and in what was published
pub record IsAt (port : ℕ) (holder : PassValue) (before now : SingleNodeValue) (left : PassValue) : Type 0 where
  pub passes : now.passes ≡ set before.passes port left
  pub banks : now.banks ≡ before.banks
  pub windows : left.windows ≡ holder.windows

-- what the port has
pub own : (port : ℕ) (holder : PassValue) (before now : SingleNodeValue) (left : PassValue) → port < length before.passes → IsAt port holder before now left → slice_get now.passes port ≡ Some left
own port holder before now left below is =
    let inside : port < length (set before.passes port left) = rw (length-set before.passes port left) below in
    ap (λ (l : List PassValue). slice_get l port) is.passes
    ∙ slice_get-get_or (set before.passes port left) port holder inside
    ∙ ap (λ (h : PassValue). Some h) (get_or-set_same before.passes port left holder below)

-- one packet more at the port
pub one_more : (port : ℕ) (holder : PassValue) (before now next : SingleNodeValue) (left after : PassValue) → IsAt port holder before now left → next.passes ≡ set now.passes port after → next.banks ≡ now.banks → after.windows ≡ left.windows → IsAt port holder before next after
one_more port holder before now next left after is passes banks windows = record {
  passes = passes ∙ ap (λ (l : List PassValue). set l port after) is.passes ∙ set-set before.passes port left after;
  banks = banks ∙ is.banks;
  windows = windows ∙ is.windows;
}

-- that many parts of the image are staged, and nothing was published
pub record HasParts (port : ℕ) (image : List ℕ) (holder : PassValue) (before : SingleNodeValue) (done : ℕ) (now : SingleNodeValue) : Type 0 where
  pub left : PassValue
  pub node : IsAt port holder before now left
  pub programs : now.programs ≡ before.programs
  pub size : length left.staging.bytes ≡ 16384
  pub staged : (i : ℕ) → i < 4096 * done → i < length image → get_or left.staging.bytes i 0 ≡ get_or image i 0

-- a write of a part leaves the staging with it
bytes_left : (w : WindowsValue) (image : List ℕ) (number : ℕ) (p : Cargo) (port : ℕ) (h left : PassValue) (now next : SingleNodeValue) (reply : List ℕ) (c : CommandValue) → IsPart w image number p c → EndsWell Staging c port h left now next reply
    → left.staging.bytes ≡ (after_write (memory_at 0 h.staging.bytes) c (part_of image number)).bytes
bytes_left w image number p port h left now next reply c part ends =
    let between = ends.between in
    let judged = ends.judged in
    let m : Memory = memory_at 0 h.staging.bytes in
    ap (λ (s : Staged). s.bytes) (ends.ended.0.staged.staging ∙ ap (λ (place : Place). after_place place between.staging judged) ends.place_is)
    ∙ ap (λ (s : Staged). (answer_on 0 s.bytes judged).memory.bytes) ends.staging
    ∙ ap (λ (x : CommandValue). (answer m true x judged.verdict).memory.bytes) ends.command
    ∙ ap (λ (x : Memory). x.bytes) (written m c judged.verdict ends.verdict part.taken.right part.taken.is_kind)
    ∙ ap (λ (l : List ℕ). (after_write m c l).bytes) part.carried

-- the byte of an image that one of its parts has at a place
part_byte : (image : List ℕ) (number i : ℕ) → 4096 * number ≤ i → i < 4096 * number + 4096 → get_or (part_of image number) (i - 4096 * number) 0 ≡ get_or image i 0
part_byte image number i above below =
    let index : 4096 * number + (i - 4096 * number) ≡ i = omega (arith, above) in
    get_or-take 4096 (drop (4096 * number) image) (i - 4096 * number) 0 (omega (arith, above, below))
    ∙ get_or-drop (4096 * number) image (i - 4096 * number) 0
    ∙ ap (λ k. get_or image k 0) index

-- one part more is staged
part_more : (w : WindowsValue) (image : List ℕ) (number : ℕ) (p : Cargo) (port : ℕ) (holder : PassValue) (before now next : SingleNodeValue) (reply : List ℕ) (c : CommandValue) → length image ≤ 16384 → IsPart w image number p c
    → (has : HasParts port image holder before number now) → IsPassed Staging c port has.left now next reply → HasParts port image holder before (number + 1) next
part_more w image number p port holder before now next reply c short part has passed =
    let ends = passed.ends in
    let bytes = has.left.staging.bytes in
    let new = part_of image number in
    let size = has.size in
    let is = bytes_left w image number p port has.left passed.left now next reply c part ends in
    let stays : length (after_write (memory_at 0 bytes) c new).bytes ≡ length bytes = length_stays bytes c new in
    record {
      left = passed.left;
      node = one_more port holder before now next has.left passed.left has.node passed.passes ends.banks (ap (λ (h : PassValue). h.windows) ends.ended.0.rest ∙ ends.windows);
      programs = ends.ended.1 ∙ has.programs;
      size = ap length is ∙ stays ∙ size;
      staged = λ i below within.
          let there : i < length bytes = omega (arith, size, short, within) in
          ap (λ (l : List ℕ). get_or l i 0) is
          ∙ elim (cases_lt i (4096 * number)) [
            | inl early ↦ byte_before bytes c new (4096 * number) i there part.taken.increment part.taken.address_is early ∙ has.staged i early within
            | inr late ↦
                let inside : i < 4096 * number + length new = omega (arith, below, within, late, length-take 4096 (drop (4096 * number) image), length-drop (4096 * number) image) in
                byte_written bytes c new (4096 * number) i there part.taken.increment part.taken.address_is late inside ∙ part_byte image number i late (omega (arith, below))
          ];
    }

-- All parts of the image are staged. The packets after them are still to come, and so are their replies.
pub record AreStaged (port : ℕ) (image : List ℕ) (holder : PassValue) (before : SingleNodeValue) (rest : List Cargo) (after : SingleNodeValue) (replies : List (List ℕ)) : Type 0 where
  pub now : SingleNodeValue
  pub has : HasParts port image holder before (part_count image) now
  pub earlier : List (List ℕ)
  pub later : List (List ℕ)
  pub replies_are : replies ≡ earlier ++ later
  pub turn : LetsPassInTurn port rest now after later

-- one reply more came before
one_earlier : (port : ℕ) (image : List ℕ) (holder : PassValue) (before : SingleNodeValue) (rest : List Cargo) (after : SingleNodeValue) (reply : List ℕ) (replies : List (List ℕ)) → AreStaged port image holder before rest after replies → AreStaged port image holder before rest after (reply ∷ replies)
one_earlier port image holder before rest after reply replies found = record {
  now = found.now;
  has = found.has;
  earlier = reply ∷ found.earlier;
  later = found.later;
  replies_are = ap (λ (l : List (List ℕ)). reply ∷ l) found.replies_are;
  turn = found.turn;
}

-- the packet is the write of that part
abbrev IsPartSent : (address transaction : ℕ) → List ℕ → ℕ → Cargo → Type 0
IsPartSent address transaction image number p = IsSent address (stage_request transaction (part_of image number) number) (with_crc (part_of image number)) p

-- parts that pass in turn are staged, one after the other
pub parts_staged : CommandsAreKept → MadeCommandsAreRead → LoadPacketsAreTaken → (transaction port : ℕ) (image : List ℕ) (holder : PassValue) (before : SingleNodeValue) (rest : List Cargo) (after : SingleNodeValue)
    → slice_get holder.windows.banks 255 ≡ None → length image ≤ 16384 → port < length before.passes → (parts : List Cargo) (done : ℕ) (now : SingleNodeValue) (replies : List (List ℕ))
    → ((number : ℕ) (p : Cargo) → slice_get parts number ≡ Some p → IsPartSent holder.windows.node_address transaction image (done + number) p) → done + length parts ≡ part_count image
    → HasParts port image holder before done now → LetsPassInTurn port (parts ++ rest) now after replies → AreStaged port image holder before rest after replies
parts_staged keeps reads law transaction port image holder before rest after none short below [] done now replies each count has turn =
    let all : done ≡ part_count image = omega (arith, count) in
    record {
      now = now;
      has = subst (λ (n : ℕ). HasParts port image holder before n now) all has;
      earlier = [];
      later = replies;
      replies_are = refl;
      turn = turn;
    }
parts_staged keeps reads law transaction port image holder before rest after none short below (p ∷ ps) done now [] each count has turn = absurd turn
parts_staged keeps reads law transaction port image holder before rest after none short below (p ∷ ps) done now (reply ∷ replies) each count has turn =
    let w = holder.windows in
    let within : 4096 * done < length image = omega (arith, count) in
    let first : done + 0 ≡ done = omega arith in
    let sent : IsPartSent w.node_address transaction image done p = subst (λ (n : ℕ). IsPartSent w.node_address transaction image n p) first (each 0 p refl) in
    let is = is_part keeps reads law w transaction image done p none short within sent in
    let next = turn.0 in
    let taken = subst (λ (x : WindowsValue). IsTaken x p is.0 Write Staging (4096 * done) (length (part_of image done))) (sym has.node.windows) is.1.taken in
    let pass = passed p port now next has.left reply is.0 Write Staging (4096 * done) (length (part_of image done)) (own port holder before now has.left below has.node) taken tt turn.1 in
    let more = part_more w image done p port holder before now next reply is.0 short is.1 has pass in
    one_earlier port image holder before rest after reply replies (parts_staged keeps reads law transaction port image holder before rest after none short below ps (done + 1) next replies
    (λ number q at. let place : done + suc number ≡ done + 1 + number = omega arith in subst (λ (n : ℕ). IsPartSent w.node_address transaction image n q) place (each (suc number) q at))
    (omega (arith, count)) more turn.2)

-- the staging begins with the image after all its parts are staged
pub begins_with : (port : ℕ) (image : List ℕ) (holder : PassValue) (before now : SingleNodeValue) → length image ≤ 16384 → (has : HasParts port image holder before (part_count image) now) → take (length image) has.left.staging.bytes ≡ image
begins_with port image holder before now short has =
    let bytes = has.left.staging.bytes in
    let size = has.size in
    let long : length (take (length image) bytes) ≡ length image = omega (arith, size, short, length-take (length image) bytes) in
    ext_get_or 0 (take (length image) bytes) image long (λ i below.
    let within : i < length image = omega (arith, long, below) in
    get_or-take (length image) bytes i 0 within ∙ has.staged i (omega (arith, within)) within)
