-- Pieces that a port takes, as they are when it took them: its number is the place of its feed among all.
use Rattle.std.proofs.Common.{◌≡◌, ◌<◌, ◌≤◌, ◌+◌, ℕ, List, [], ◌++◌, length, get_or, Option, Some, None, refl, sym, ap, subst, arith, ◌∙◌, inr}
use Rattle.std.specs.Prelude.{slice_get, slice_set}
use Rattle.std.proofs.Math.Nat.{lt_of_not-le}
use Rattle.std.proofs.lemmas.List.{length-append, set-get_or}
use Rattle.std.proofs.lemmas.Option.{slice_get-get_or}
use Rattle.spw.specs.Cargo.{Cargo}
use Rattle.spw.specs.Line.{IsPieceLine}
use Rattle.spw.specs.declared.faults.LineFault.{LineFault}
use Rattle.spw.specs.declared.faults.LineFault.TheVariants.{NoPort, BadHex, BadMarker, TooLong, Memory}
use Rattle.spw.specs.declared.packets.End.{End}
use Rattle.spw.specs.declared.packets.TheConstants.{MAX_PACKET}
use Rattle.job_nodes.specs.Feeds.{Continues, IsFed, IsNotFed, IsUnended}
use Rattle.job_parts.specs.declared.bad_lines.BadLine.TheVariants.{Line}

-- a line whose piece is for the feed at this place, which holds its own bytes
pub record IsPieceAt (line : List ℕ) (feeds held : List (List ℕ)) (port place : ℕ) (own piece : List ℕ) (mark : Option End) : Type 0 where
  pub feeds_are : feeds ≡ held
  pub place_is : place ≡ port
  pub below : place < length feeds
  pub found : own ≡ get_or feeds place own
  pub written : IsPieceLine line port piece mark

module _ {line : List ℕ} {feeds held : List (List ℕ)} {port place : ℕ} {own piece joined : List ℕ} {mark : Option End}
    (is : IsPieceAt line feeds held port place own piece mark) (whole : joined ≡ own ++ piece) where
  continues : Continues line held port joined mark
  continues =
      let there : slice_get feeds place ≡ Some own = slice_get-get_or feeds place own is.below ∙ ap (λ (x : List ℕ). Some x) (sym is.found) in
      record {
        own = own;
        piece = piece;
        written = is.written;
        holder = subst (λ (xs : List (List ℕ)). slice_get xs port ≡ Some own) is.feeds_are (subst (λ (k : ℕ). slice_get feeds k ≡ Some own) is.place_is there);
        joined = whole;
      }

  -- what is set at the place is set at the port
  set : (bytes : List ℕ) → slice_set feeds place bytes ≡ slice_set held port bytes
  set bytes = ap (λ (xs : List (List ℕ)). slice_set xs place bytes) is.feeds_are ∙ ap (λ (k : ℕ). slice_set held k bytes) is.place_is

  -- what is not too long is short
  short : (MAX_PACKET < length own + length piece → ⊥) → length joined ≤ MAX_PACKET
  short few =
      let below : length own + length piece < MAX_PACKET + 1 = lt_of_not-le (λ h. few (omega (arith, h))) in
      omega (arith, below, ap (λ (xs : List ℕ). length xs) whole, length-append own piece)

  -- a piece after which the packet goes on
  pub goes_on : mark ≡ None → (MAX_PACKET < length own + length piece → ⊥) → IsFed line held (slice_set feeds place joined) None
  goes_on going few =
      (port, joined, subst (λ (m : Option End). Continues line held port joined m) going continues, short few, set joined)

  -- a piece that ends its packet
  pub ends : (packet : Cargo) (end : End) (after : List ℕ)
      → packet ≡ record { bytes = joined; end = end } → after ≡ [] → mark ≡ Some end → (MAX_PACKET < length own + length piece → ⊥)
      → IsFed line held (slice_set feeds place after) (Some (port, packet))
  ends packet end after made empty closed few =
      let all = subst (λ (m : Option End). Continues line held port joined m) closed continues in
      let bytes = subst (λ (p : Cargo). Continues line held port p.bytes (Some p.end)) (sym made) all in
      let same = ap (λ (x : List ℕ). slice_set feeds place x) empty ∙ set [] in
      (bytes, subst (λ (p : Cargo). length p.bytes ≤ MAX_PACKET) (sym made) (short few), same)

  -- a piece that is too long
  pub overfills : (fault : LineFault) (after : List ℕ) → fault ≡ TooLong → after ≡ own → MAX_PACKET < length own + length piece
      → IsNotFed line held (slice_set feeds place after) (Line fault)
  overfills fault after reported kept long =
      let much : MAX_PACKET < length joined = omega (arith, long, ap (λ (xs : List ℕ). length xs) whole, length-append own piece) in
      let same = ap (λ (x : List ℕ). slice_set feeds place x) (kept ∙ is.found) ∙ set-get_or feeds place own ∙ is.feeds_are in
      subst (λ (f : LineFault). IsNotFed line held (slice_set feeds place after) (Line f)) (sym reported) (inr (port, joined, mark, continues, much), same)

  -- a piece that ends its packet, to which memory is refused
  pub stays : (fault : LineFault) (end : End) (after : List ℕ)
      → fault ≡ Memory → after ≡ joined → mark ≡ Some end → (MAX_PACKET < length own + length piece → ⊥)
      → IsNotFed line held (slice_set feeds place after) (Line fault)
  stays fault end after reported kept closed few =
      let all = subst (λ (m : Option End). Continues line held port joined m) closed continues in
      let same = ap (λ (x : List ℕ). slice_set feeds place x) kept ∙ set joined in
      subst (λ (f : LineFault). IsNotFed line held (slice_set feeds place after) (Line f)) (sym reported) (inr (port, joined, end, all, short few, same))

  -- a piece that ends no packet, for what it was refused
  pub unended : (fault : LineFault) (end : End) (after : List ℕ) → mark ≡ Some end → IsUnended own piece after fault
      → IsNotFed line held (slice_set feeds place after) (Line fault)
  unended NoPort end after closed why = absurd why
  unended BadMarker end after closed why = absurd why
  unended BadHex end after closed why = absurd why
  unended TooLong end after closed why = overfills TooLong after refl why.1 why.0
  unended Memory end after closed why = stays Memory end after refl (why.1 ∙ sym whole) closed (λ long. omega (arith, long, why.0))
