-- Each point of a command that may be judged has a header.
use Rattle.std.proofs.Common.{◌≡◌, ◌≤◌, ◌<◌, ◌+◌, ◌-◌, ◌^◌, ◌==◌, ℕ, zero, suc, Bool, true, false, not, ◌&&◌, List, [], ◌∷◌, ◌++◌, refl, ap, sym, ◌∙◌, subst, arith}
use Rattle.std.specs.Prelude.{All, if◌then◌else◌}
use Rattle.std.specs.Int.{byte_at}
use Rattle.std.proofs.lemmas.Bool.Decides.{nat_tests}
use Rattle.std.proofs.lemmas.List.Elements.{All-nil, All-cons, All-append}
use Rattle.byteorder.specs.Endian.{big_bytes}
use Rattle.byteorder.specs.Numbers.{big_number-reads_back}
use Rattle.rmap.specs.declared.kind.Kind.{Kind}
use Rattle.rmap.specs.declared.kind.Kind.TheVariants.{Read, Rmw, Unused, Write}
use Rattle.rmap.specs.Command.{address_of, increments, length_of}
use Rattle.rmap.specs.Instruction.{has_increment_bit, is_used, kind_of}
use Rattle.policy_table.specs.Meaning.{fields_of, last_address_of}
use Rattle.regions.specs.Points.{HasCommand, IsSpan, is_distance}
use Rattle.machine.specs.declared.calls.Call.{Call}
use Rattle.charts.specs.Points.{IsDifference, decision_at, header_point_of}
use Rattle.charts.specs.Tickets.{AreTickets}
use Rattle.charts.specs.Witness.{IsWitness, header_for, instruction_for, length_for}
use Rattle.regions.specs.declared.points.Point.{Point}
use Rattle.policy_table.specs.declared.rules.Rule.{Rule}
use Rattle.charts.proofs.Whole.{at_point}

kind_back : (kind : Kind) → is_used kind ≡ true → kind_of (instruction_for kind) ≡ kind
kind_back Read used = refl
kind_back Write used = refl
kind_back Rmw used = refl
kind_back Unused used = absurd (cc)

increments_too : (kind : Kind) → is_used kind ≡ true → has_increment_bit (instruction_for kind) ≡ true
increments_too Read used = refl
increments_too Write used = refl
increments_too Rmw used = refl
increments_too Unused used = absurd (cc)

instruction_fits : (kind : Kind) → instruction_for kind < 256
instruction_fits Read = omega arith
instruction_fits Write = omega arith
instruction_fits Rmw = omega arith
instruction_fits Unused = omega arith

-- a kind that has such a distance is used, and its data fit
pub is_used_kind : (kind : Kind) (d : ℕ) → is_distance kind d ≡ true → is_used kind ≡ true
is_used_kind Read d e = refl
is_used_kind Write d e = refl
is_used_kind Rmw d e = refl
is_used_kind Unused d e = absurd (cc)

is_near : (kind : Kind) (d : ℕ) → is_distance kind d ≡ true → d < 4096
is_near Read d e = grind (arith, nat_tests)
is_near Write d e = grind (arith, nat_tests)
is_near Rmw d e = grind (arith, nat_tests)
is_near Unused d e = absurd (cc)

few_addresses : (kind : Kind) (addresses : ℕ) → length_for kind addresses ≤ addresses
few_addresses Read addresses = omega arith
few_addresses Write addresses = omega arith
few_addresses Rmw addresses = by_test (addresses == 1)
  where
    by_test : (t : Bool) → (if t then 0 else addresses) ≤ addresses
    by_test true = omega arith
    by_test false = omega arith
few_addresses Unused addresses = omega arith

counted : (a n first last : ℕ) → a ≡ first → n ≡ last + 1 - first → first ≤ last → (if true && not (n == 0) then a + n - 1 else a) ≡ last
counted a n first last f g le =
    let some : (n == 0) ≡ false = grind (arith, nat_tests) in
    rw some (omega arith)

last_for : (kind : Kind) (t : Bool) (a n first last : ℕ) → t ≡ true → a ≡ first → n ≡ length_for kind (last + 1 - first) → first ≤ last → (if t && not (n == 0) then a + n - 1 else a) ≡ last
last_for Read true a n first last e f g le = counted a n first last f g le
last_for Write true a n first last e f g le = counted a n first last f g le
last_for Unused true a n first last e f g le = counted a n first last f g le
last_for Rmw true a n first last e f g le = by_test (last + 1 - first == 1) refl
  where
    by_test : (one : Bool) → (last + 1 - first == 1) ≡ one → (if true && not (n == 0) then a + n - 1 else a) ≡ last
    by_test true h =
        let single : last + 1 - first ≡ 1 = grind (arith, nat_tests) in
        let none : n ≡ 0 = g ∙ ap (λ (t : Bool). if t then 0 else last + 1 - first) h in
        rw none (omega arith)
    by_test false h = counted a n first last f (g ∙ ap (λ (t : Bool). if t then 0 else last + 1 - first) h) le
last_for kind false a n first last e f g le = absurd (cc)

byte_fits : (k n : ℕ) → byte_at k n < 256
byte_fits zero n = omega arith
byte_fits (suc k) n = omega arith

abbrev IsByte : ℕ → Type 0
IsByte b = b < 256

bytes_fit : (n x : ℕ) → All IsByte (big_bytes n x)
bytes_fit zero x = All-nil IsByte
bytes_fit (suc n) x = All-cons IsByte (byte_at n x) (big_bytes n x) (byte_fits n x) (bytes_fit n x)

abbrev length_at : Point → ℕ
length_at p = length_for p.kind (p.last + 1 - p.first)

first_back : (p : Point) → p.first < 2 ^ 32 → address_of (fields_of (header_for p)) ≡ p.first
first_back p h = big_number-reads_back 4 p.first (big_bytes 3 (length_at p) ++ 0 ∷ []) (omega arith)

length_back : (p : Point) → length_at p < 2 ^ 24 → length_of (fields_of (header_for p)) ≡ length_at p
length_back p h = big_number-reads_back 3 (length_at p) (0 ∷ []) (omega arith)

last_back : (p : Point) → IsSpan p.kind p.first p.last → last_address_of (fields_of (header_for p)) ≡ p.last
last_back p span =
    let near : p.last - p.first < 4096 = is_near p.kind (p.last - p.first) span.distance in
    last_for p.kind (increments (fields_of (header_for p))) (address_of (fields_of (header_for p))) (length_of (fields_of (header_for p))) p.first p.last
    (increments_too p.kind (is_used_kind p.kind (p.last - p.first) span.distance)) (first_back p (omega (arith, span.order, span.fits)))
    (length_back p (omega (arith, span.order, near, few_addresses p.kind (p.last + 1 - p.first)))) span.order

pub point_back : (p : Point) → IsSpan p.kind p.first p.last → header_point_of (header_for p) ≡ p
point_back p span =
    ap (λ (kind : Kind). record { kind = kind; key = p.key; initiator = p.initiator; extended = p.extended; first = address_of (fields_of (header_for p)); last = last_address_of (fields_of (header_for p)) })
    (kind_back p.kind (is_used_kind p.kind (p.last - p.first) span.distance))
    ∙ ap (λ (n : ℕ). record { kind = p.kind; key = p.key; initiator = p.initiator; extended = p.extended; first = n; last = last_address_of (fields_of (header_for p)) }) (first_back p (omega (arith, span.order, span.fits)))
    ∙ ap (λ (n : ℕ). record { kind = p.kind; key = p.key; initiator = p.initiator; extended = p.extended; first = p.first; last = n }) (last_back p span)

front_bytes : (p : Point) → HasCommand p → All IsByte (header_for p).front
front_bytes p b =
    All-cons IsByte 254 (1 ∷ instruction_for p.kind ∷ p.key ∷ []) (omega arith)
    (All-cons IsByte 1 (instruction_for p.kind ∷ p.key ∷ []) (omega arith)
    (All-cons IsByte (instruction_for p.kind) (p.key ∷ []) (instruction_fits p.kind)
    (All-cons IsByte p.key [] b.key (All-nil IsByte))))

tail_bytes : (p : Point) → HasCommand p → All IsByte (header_for p).tail
tail_bytes p b =
    let start : List ℕ = p.initiator ∷ 0 ∷ 0 ∷ p.extended ∷ [] in
    let first : List ℕ = big_bytes 4 p.first in
    let count : List ℕ = big_bytes 3 (length_at p) in
    let start_fits : All IsByte start =
    All-cons IsByte p.initiator (0 ∷ 0 ∷ p.extended ∷ []) b.initiator (All-cons IsByte 0 (0 ∷ p.extended ∷ []) (omega arith)
    (All-cons IsByte 0 (p.extended ∷ []) (omega arith) (All-cons IsByte p.extended [] b.extended (All-nil IsByte)))) in
    All-append IsByte (start ++ first ++ count) (0 ∷ [])
    (All-append IsByte (start ++ first) count (All-append IsByte start first start_fits (bytes_fit 4 p.first)) (bytes_fit 3 (length_at p)))
    (All-cons IsByte 0 [] (omega arith) (All-nil IsByte))

pub have_headers : (old new : List Rule) (p : Point) → IsDifference old new p → IsWitness old new (header_for p) × (header_point_of (header_for p) ≡ p)
have_headers old new p d =
    let back : header_point_of (header_for p) ≡ p = point_back p d.command.span in
    let reported : ℕ → ℕ = d.differ.reported in
    let old_is = at_point old (header_for p) reported ∙ ap (λ (q : Point). decision_at old q reported) back in
    let new_is = at_point new (header_for p) reported ∙ ap (λ (q : Point). decision_at new q reported) back in (
      record {
        judged = record {
          header = record { front = refl; tail = refl; front_bytes = front_bytes p d.command; tail_bytes = tail_bytes p d.command };
          span = subst (λ (q : Point). IsSpan q.kind q.first q.last) (sym back) d.command.span;
        };
        reported = reported;
        words = d.differ.words;
        old_tickets = subst (λ (x : List Call × ℕ). AreTickets x.0) (sym old_is) d.differ.old_tickets;
        new_tickets = subst (λ (x : List Call × ℕ). AreTickets x.0) (sym new_is) d.differ.new_tickets;
        differ = λ same. d.differ.differ (sym old_is ∙ same ∙ new_is);
      },
      back,
    )
