-- The bytes of pages, and what commands do to them page by page.
use Rattle.std.proofs.Common.{◌≡◌, ◌≢◌, ℕ, zero, suc, ◌+◌, ◌-◌, ◌*◌, ◌/◌, ◌%◌, ◌≤◌, ◌<◌, ◌++◌, ◌∷◌, [], List, Bool, true, false, leb, ltb, ◌&&◌, length, get_or, set, take, drop, replicate, refl, sym, ap, ◌∙◌, arith, inl, inr, ◌⊎◌}
use Rattle.std.specs.Prelude.{min, map}
use Rattle.std.proofs.Math.Seq.{map-set_same}
use Rattle.std.specs.List.{concat}
use Rattle.std.proofs.Math.Nat.{mod-lt, div-le_self}
use Rattle.std.proofs.Math.Seq.{take-append-add, take-append_seam, take-add}
use Rattle.std.proofs.lemmas.Nat.{div-add-mod'}
use Rattle.std.proofs.lemmas.Bool.{cases_lt, cases_eq, and_parts}
use Rattle.std.proofs.lemmas.Bool.Decides.{nat_tests}
use Rattle.std.proofs.lemmas.Grind.{same_number_lists}
use Rattle.std.proofs.lemmas.List.{same_lists, get_or_default, length-map, append-nil, length-replicate, replicate-append-replicate, drop-drop, take_min, take-append-drop, take-append-le, length-append, length-set, length-take, length-drop, get_or-take, get_or-drop, get_or_append_left, get_or-append_right, get_or-set_same, get_or-set_other}
use Rattle.std.proofs.lemmas.List.FromFn.{length-map-range_with_len, get_or-map-range_with_len, fill_by_all}
use Rattle.rmap.specs.declared.kind.Kind.{Kind}
use Rattle.rmap.specs.declared.kind.Kind.TheVariants.{Read, Write, Rmw, Unused}
use Rattle.rmap.specs.Command.{CommandValue, address_of, length_of, command_kind, increments}
use Rattle.rmap.specs.Checks.{data_of}
use Rattle.bank.specs.Effect.{Memory, IsDataWithin, byte_at, byte_after_data, bytes_read, address_of_byte, modified_byte, modified_bytes, command_effect_of, effect}
use Rattle.bank.specs.Laws.{IsPartOf}
use Rattle.rmap.specs.Windows.{lies_inside}
use Rattle.bank.specs.Admission.{IsAdmissible}
use Rattle.std.proofs.lemmas.List.Folds.{concat-append}
use Rattle.bank.specs.Pages.{ArePages, AreFull, page_after, after_page}
use Rattle.bank.proofs.Effects.{after_below, after_above, after_other, unwritten}
use Rattle.bank.proofs.Parts.{part_changed}

abbrev pub page : List (List ℕ) → ℕ → List ℕ
page ps k = get_or ps k []

-- byte j of page k is byte k * 4096 + j of the whole
pub at_page : (ps : List (List ℕ)) (k j : ℕ) → ArePages ps → k < length ps → j < length (page ps k) → get_or (concat ps) (k * 4096 + j) 0 ≡ get_or (page ps k) j 0
at_page [] k j are below inside = absurd (omega arith)
at_page (p ∷ []) zero j are below inside =
    let index : 0 * 4096 + j ≡ j = omega arith in
    ap (λ (i : ℕ). get_or (p ++ []) i 0) index ∙ get_or_append_left p [] 0 j inside
at_page (p ∷ []) (suc k) j are below inside = absurd (omega arith)
at_page (p ∷ q ∷ ps) zero j are below inside =
    let index : 0 * 4096 + j ≡ j = omega arith in
    ap (λ (i : ℕ). get_or (p ++ concat (q ∷ ps)) i 0) index ∙ get_or_append_left p (concat (q ∷ ps)) 0 j inside
at_page (p ∷ q ∷ ps) (suc k) j are below inside =
    let index : suc k * 4096 + j - 4096 ≡ k * 4096 + j = omega arith in
    get_or-append_right p (concat (q ∷ ps)) 4096 (suc k * 4096 + j) 0 are.0 (omega arith)
    ∙ ap (λ (i : ℕ). get_or (concat (q ∷ ps)) i 0) index
    ∙ at_page (q ∷ ps) k j are.1 (omega arith) inside

-- byte j of page k is there
pub record IsAt (ps : List (List ℕ)) (k j : ℕ) : Type 0 where
  pub below : k < length ps
  pub inside : j < length (page ps k)

pub is_at : (ps : List (List ℕ)) (k j : ℕ) → ArePages ps → j < 4096 → k * 4096 + j < length (concat ps) → IsAt ps k j
is_at [] k j are small within = absurd (omega arith)
is_at (p ∷ []) zero j are small within = record { below = omega arith; inside = omega (arith, length-append p []) }
is_at (p ∷ []) (suc k) j are small within = absurd (omega (arith, length-append p [], are.1))
is_at (p ∷ q ∷ ps) zero j are small within = record { below = omega arith; inside = omega (arith, are.0) }
is_at (p ∷ q ∷ ps) (suc k) j are small within =
    let rest = is_at (q ∷ ps) k j are.1 small (omega (arith, length-append p (concat (q ∷ ps)), are.0)) in
    record { below = omega (arith, rest.below); inside = rest.inside }

pub within_all : (ps : List (List ℕ)) (k j : ℕ) → ArePages ps → k < length ps → j ≤ length (page ps k) → k * 4096 + j ≤ length (concat ps)
within_all [] k j are below inside = absurd (omega arith)
within_all (p ∷ []) zero j are below inside = omega (arith, length-append p [])
within_all (p ∷ []) (suc k) j are below inside = absurd (omega arith)
within_all (p ∷ q ∷ ps) zero j are below inside = omega (arith, length-append p (concat (q ∷ ps)))
within_all (p ∷ q ∷ ps) (suc k) j are below inside =
    omega (arith, length-append p (concat (q ∷ ps)), are.0, within_all (q ∷ ps) k j are.1 (omega arith) inside)

-- a page has at most 4,096 bytes, and exactly 4,096 if another follows
pub page_few : (ps : List (List ℕ)) (k : ℕ) → ArePages ps → length (page ps k) ≤ 4096
page_few [] k are = omega arith
page_few (p ∷ []) zero are = are.1
page_few (p ∷ []) (suc k) are = omega arith
page_few (p ∷ q ∷ ps) zero are = omega (arith, are.0)
page_few (p ∷ q ∷ ps) (suc k) are = page_few (q ∷ ps) k are.1

pub page_full : (ps : List (List ℕ)) (k : ℕ) → ArePages ps → k + 1 < length ps → length (page ps k) ≡ 4096
page_full [] k are below = absurd (omega arith)
page_full (p ∷ []) k are below = absurd (omega arith)
page_full (p ∷ q ∷ ps) zero are below = are.0
page_full (p ∷ q ∷ ps) (suc k) are below = page_full (q ∷ ps) k are.1 (omega arith)

-- the pages are still pages with another page of the same length in place k
pub are_set : (ps : List (List ℕ)) (k : ℕ) (q : List ℕ) → ArePages ps → length q ≡ length (page ps k) → ArePages (set ps k q)
are_set [] k q are long = are
are_set (p ∷ []) zero q are long = (rw long are.0, rw long are.1)
are_set (p ∷ []) (suc k) q are long = are
are_set (p ∷ r ∷ ps) zero q are long = (long ∙ are.0, are.1)
are_set (p ∷ r ∷ ps) (suc zero) q are long = (are.0, are_set (r ∷ ps) zero q are.1 long)
are_set (p ∷ r ∷ ps) (suc (suc k)) q are long = (are.0, are_set (r ∷ ps) (suc k) q are.1 long)

-- a page as a memory of its own
abbrev pub page_at : (first : ℕ) → List (List ℕ) → ℕ → Memory
page_at first ps k = record { first = first + k * 4096; bytes = page ps k }

abbrev pub all_at : (first : ℕ) → List (List ℕ) → Memory
all_at first ps = record { first = first; bytes = concat ps }

pub page_is_part : (first : ℕ) (ps : List (List ℕ)) (k : ℕ) → ArePages ps → k < length ps → IsPartOf (all_at first ps) (page_at first ps k)
page_is_part first ps k are below = record {
  above = omega arith;
  below = omega (arith, within_all ps k (length (page ps k)) are below (omega arith));
  same = λ x above inside.
      let j = x - (first + k * 4096) in
      let index : k * 4096 + j ≡ x - first = omega arith in
      sym (at_page ps k j are below (omega arith)) ∙ ap (λ (i : ℕ). get_or (concat ps) i 0) index;
}

-- a command does not change the first address and the number of bytes
first_stays : (kind : Kind) (m : Memory) (c : CommandValue) → (command_effect_of kind m c).memory.first ≡ m.first
first_stays Read m c = refl
first_stays Write m c = refl
first_stays Rmw m c = refl
first_stays Unused m c = refl

size_stays : (kind : Kind) (m : Memory) (c : CommandValue) → length (command_effect_of kind m c).memory.bytes ≡ length m.bytes
size_stays Read m c = refl
size_stays Write m c = length-map-range_with_len _ 0 (length m.bytes)
size_stays Rmw m c = length-map-range_with_len _ 0 (length m.bytes)
size_stays Unused m c = refl

pub effect_size : (m : Memory) (c : CommandValue) → length (effect m c).memory.bytes ≡ length m.bytes
effect_size m c = size_stays (command_kind c) m c

whole : (first : ℕ) (bytes : List ℕ) (m : Memory) → m.first ≡ first → bytes ≡ m.bytes → record { first = first; bytes = bytes } ≡ m
whole first bytes m place same = rw (← place, same) refl

-- each page is what the command makes of it as a memory of its own
pub record ArePaged (first : ℕ) (ps qs : List (List ℕ)) (c : CommandValue) : Type 0 where
  pub as_many : length qs ≡ length ps
  pub each : (k : ℕ) → k < length ps → page qs k ≡ (effect (page_at first ps k) c).memory.bytes
  pub are : ArePages qs
  pub size : length (concat qs) ≡ length (concat ps)

pub paged : (first : ℕ) (ps qs : List (List ℕ)) (c : CommandValue) → ArePages ps → ArePaged first ps qs c → all_at first qs ≡ (effect (all_at first ps) c).memory
paged first ps qs c are new =
    let m = all_at first ps in
    let place : (effect m c).memory.first ≡ first = first_stays (command_kind c) m c in
    let bytes : concat qs ≡ (effect m c).memory.bytes =
    same_number_lists (concat qs) (effect m c).memory.bytes (new.size ∙ sym (effect_size m c)) (λ i below.
    let k = i / 4096 in
    let j = i % 4096 in
    let index : k * 4096 + j ≡ i = div-add-mod' i 4096 in
    let small : j < 4096 = mod-lt i (omega arith) in
    let there = is_at qs k j new.are small (omega arith) in
    let within : k < length ps = omega (arith, there.below, new.as_many) in
    let part = page_at first ps k in
    let changed = part_changed (command_kind c) m part c (page_is_part first ps k are within) in
    let x = first + k * 4096 + j in
    let part_place : (effect part c).memory.first ≡ first + k * 4096 = first_stays (command_kind c) part c in
    let part_size : length (effect part c).memory.bytes ≡ length (page qs k) = ap (λ (l : List ℕ). length l) (sym (new.each k within)) in
    let same = changed.same x (omega (arith, part_place)) (omega (arith, part_place, part_size, there.inside)) in
    let part_index : x - (effect part c).memory.first ≡ j = omega (arith, part_place) in
    let all_index : x - (effect m c).memory.first ≡ i = omega (arith, place, index) in
    ap (λ (n : ℕ). get_or (concat qs) n 0) (sym index)
    ∙ at_page qs k j new.are there.below there.inside
    ∙ ap (λ (l : List ℕ). get_or l j 0) (new.each k within)
    ∙ ap (λ (n : ℕ). get_or (effect part c).memory.bytes n 0) (sym part_index)
    ∙ same
    ∙ ap (λ (n : ℕ). get_or (effect m c).memory.bytes n 0) all_index) in
    whole first (concat qs) (effect m c).memory place bytes

pub set_size : (ps : List (List ℕ)) (k : ℕ) (q : List ℕ) → length q ≡ length (page ps k) → length (concat (set ps k q)) ≡ length (concat ps)
set_size [] k q long = refl
set_size (p ∷ ps) zero q long = omega (arith, length-append q (concat ps), length-append p (concat ps))
set_size (p ∷ ps) (suc k) q long = omega (arith, length-append p (concat (set ps k q)), length-append p (concat ps), set_size ps k q long)

-- the command's data begin at byte start of page k
pub record BeginsAt (first : ℕ) (c : CommandValue) (k start : ℕ) : Type 0 where
  pub place : address_of c ≡ first + k * 4096 + start
  pub small : start < 4096
  pub short : length_of c ≤ 4096

-- addresses that the data do not have
abbrev IsApart : CommandValue → ℕ → Type 0
IsApart c x = (x < address_of c) ⊎ ((address_of c < x) × (address_of c + length_of c ≤ x))

stays : (next : Bool) (m : Memory) (c : CommandValue) (bytes : List ℕ) (x : ℕ) → increments c ≡ next → length bytes ≤ length_of c → IsApart c x → byte_after_data m c bytes x ≡ byte_at m x
stays true m c bytes x next few (inl below) = after_below m c bytes x next below
stays true m c bytes x next few (inr past) = after_above m c bytes x next (omega (arith, past.0)) (omega (arith, past.1))
stays false m c bytes x again few (inl below) = after_other m c bytes x again (λ e. omega arith)
stays false m c bytes x again few (inr past) = after_other m c bytes x again (λ e. omega (arith, past.0))

unchanged : (kind : Kind) (m : Memory) (c : CommandValue) → ((x : ℕ) → m.first ≤ x → x < m.first + length m.bytes → IsApart c x) → m.bytes ≡ (command_effect_of kind m c).memory.bytes
unchanged Read m c apart = refl
unchanged Write m c apart =
    unwritten m c (data_of c) (λ k inside. stays (increments c) m c (data_of c) (m.first + k) refl (omega (arith, length-take (length_of c) c.body)) (apart (m.first + k) (omega arith) (omega arith)))
unchanged Rmw m c apart =
    let bytes = modified_bytes m c (length_of c / 2) in
    let few : length bytes ≤ length_of c = omega (arith, length-map-range_with_len (modified_byte m c (length_of c / 2)) 0 (length_of c / 2), div-le_self (length_of c) 2) in
    unwritten m c bytes (λ k inside. stays (increments c) m c bytes (m.first + k) refl few (apart (m.first + k) (omega arith) (omega arith)))
unchanged Unused m c apart = refl

pub other_page : (first : ℕ) (ps : List (List ℕ)) (c : CommandValue) (k start n : ℕ) → ArePages ps → BeginsAt first c k start → n ≢ k → n ≢ k + 1 → page ps n ≡ (effect (page_at first ps n) c).memory.bytes
other_page first ps c k start n are begins other further =
    let few = page_few ps n are in
    let place = begins.place in
    let small = begins.small in
    let short = begins.short in
    unchanged (command_kind c) (page_at first ps n) c (λ x above below. elim (cases_lt n k) [
      | inl before ↦ inl (omega arith)
      | inr after ↦ elim (cases_eq n k) [
        | inl same ↦ absurd (other same)
        | inr another ↦ elim (cases_eq n (k + 1)) [ inl same ↦ absurd (further same) | inr yet ↦ inr (omega arith, omega arith) ]
      ]
    ])

-- one page was changed, and it is the last
pub one_changed : (first : ℕ) (ps : List (List ℕ)) (c : CommandValue) (k start : ℕ) → ArePages ps → k < length ps → BeginsAt first c k start → length ps ≤ k + 1 → ArePaged first ps (after_page (first + k * 4096) ps k c) c
one_changed first ps c k start are below begins last =
    let q = page_after (first + k * 4096) ps k c in
    let long : length q ≡ length (page ps k) = effect_size (page_at first ps k) c in
    record {
      as_many = length-set ps k q;
      each = λ n within. elim (cases_eq n k) [
        | inl same ↦ rw same (get_or-set_same ps k q [] below)
        | inr other ↦ get_or-set_other ps k n q [] other ∙ other_page first ps c k start n are begins other (λ e. omega arith)
      ];
      are = are_set ps k q are long;
      size = set_size ps k q long;
    }

-- one page and the next were changed
pub two_changed : (first : ℕ) (ps : List (List ℕ)) (c : CommandValue) (k start : ℕ) → ArePages ps → k + 1 < length ps → BeginsAt first c k start → ArePaged first ps (after_page (first + (k + 1) * 4096) (after_page (first + k * 4096) ps k c) (k + 1) c) c
two_changed first ps c k start are below begins =
    let q = page_after (first + k * 4096) ps k c in
    let r = page_after (first + (k + 1) * 4096) (set ps k q) (k + 1) c in
    let apart : k + 1 ≢ k = λ e. omega arith in
    let kept : page (set ps k q) (k + 1) ≡ page ps (k + 1) = get_or-set_other ps k (k + 1) q [] apart in
    let long : length q ≡ length (page ps k) = effect_size (page_at first ps k) c in
    let next_long : length r ≡ length (page (set ps k q) (k + 1)) = effect_size (page_at first (set ps k q) (k + 1)) c in
    let next_bytes : r ≡ (effect (page_at first ps (k + 1)) c).memory.bytes =
    ap (λ (l : List ℕ). (effect (record { first = first + (k + 1) * 4096; bytes = l }) c).memory.bytes) kept in
    let as_many : length (set ps k q) ≡ length ps = length-set ps k q in
    record {
      as_many = length-set (set ps k q) (k + 1) r ∙ as_many;
      each = λ n within. elim (cases_eq n (k + 1)) [
        | inl same ↦ rw same (get_or-set_same (set ps k q) (k + 1) r [] (omega arith) ∙ next_bytes)
        | inr further ↦ get_or-set_other (set ps k q) (k + 1) n r [] further ∙ elim (cases_eq n k) [
          | inl same ↦ rw same (get_or-set_same ps k q [] (omega arith))
          | inr other ↦ get_or-set_other ps k n q [] other ∙ other_page first ps c k start n are begins other further
        ]
      ];
      are = are_set (set ps k q) (k + 1) r (are_set ps k q are long) next_long;
      size = set_size (set ps k q) (k + 1) r next_long ∙ set_size ps k q long;
    }

-- the same, with the pages and their addresses given by equations
pub one_is_changed : (first : ℕ) (ps qs : List (List ℕ)) (c : CommandValue) (k start : ℕ) → qs ≡ after_page (first + k * 4096) ps k c → ArePages ps → k < length ps → BeginsAt first c k start → length ps ≤ k + 1 → ArePaged first ps qs c
one_is_changed first ps qs c k start new are below begins last = rw new (one_changed first ps c k start are below begins last)

pub two_are_changed : (first next : ℕ) (ps mid qs : List (List ℕ)) (c : CommandValue) (k start : ℕ) → next ≡ first + (k + 1) * 4096 → mid ≡ after_page (first + k * 4096) ps k c → qs ≡ after_page next mid (k + 1) c → ArePages ps → k + 1 < length ps → BeginsAt first c k start → ArePaged first ps qs c
two_are_changed first next ps mid qs c k start place middle new are below begins =
    rw (new, middle, place) (two_changed first ps c k start are below begins)

pub page_some : (ps : List (List ℕ)) (k : ℕ) → ArePages ps → k < length ps → 1 ≤ length (page ps k)
page_some [] k are below = absurd (omega arith)
page_some (p ∷ []) zero are below = are.0
page_some (p ∷ []) (suc k) are below = absurd (omega arith)
page_some (p ∷ q ∷ ps) zero are below = omega (arith, are.0)
page_some (p ∷ q ∷ ps) (suc k) are below = page_some (q ∷ ps) k are.1 (omega arith)

-- the page in which a command begins
pub record IsInPage (first : ℕ) (ps : List (List ℕ)) (c : CommandValue) (k : ℕ) : Type 0 where
  pub start : ℕ
  pub begins : BeginsAt first c k start
  pub below : k < length ps

pub in_page : (first : ℕ) (ps : List (List ℕ)) (c : CommandValue) (address : ℕ) → address ≡ address_of c → ArePages ps → lies_inside first (length (concat ps)) c ≡ true → IsAdmissible c → IsInPage first ps c ((address - first) / 4096)
in_page first ps c address is are inside admitted =
    let parts = and_parts (leb first (address_of c) && ltb (address_of c) (first + length (concat ps))) _ inside in
    let two = and_parts (leb first (address_of c)) (ltb (address_of c) (first + length (concat ps))) parts.0 in
    let low : leb first (address_of c) ≡ true = two.0 in
    let high : ltb (address_of c) (first + length (concat ps)) ≡ true = two.1 in
    let above : first ≤ address_of c = grind (arith, nat_tests) in
    let under : address_of c < first + length (concat ps) = grind (arith, nat_tests) in
    let limit : ltb 4096 (length_of c) ≡ false = admitted.short in
    let short : length_of c ≤ 4096 = grind (arith, nat_tests) in
    let k = (address - first) / 4096 in
    let start = (address - first) % 4096 in
    let index : k * 4096 + start ≡ address - first = div-add-mod' (address - first) 4096 in
    let small : start < 4096 = mod-lt (address - first) (omega arith) in
    let there = is_at ps k start are small (omega arith) in
    record { start = start; begins = record { place = omega arith; small = small; short = short }; below = there.below }

-- what is read from a part is what is read from the whole
in_part : (next : Bool) (part : Memory) (c : CommandValue) (n i : ℕ) → increments c ≡ next → IsDataWithin part.first (length part.bytes) c n → i < n → (part.first ≤ address_of_byte c i) × (address_of_byte c i < part.first + length part.bytes)
in_part true part c n i next within below = rw next (omega (arith, within.above), omega (arith, within.all next))
in_part false part c n i again within below = rw again (within.above, within.below)

pub read_in_part : (m part : Memory) (c : CommandValue) (n : ℕ) → IsPartOf m part → IsDataWithin part.first (length part.bytes) c n → bytes_read part c n ≡ bytes_read m c n
read_in_part m part c n of within =
    fill_by_all (λ i. byte_at m (address_of_byte c i)) (bytes_read part c n) n 0 (length-map-range_with_len _ 0 n) (λ i below.
    let place = in_part (increments c) part c n i refl within below in
    get_or-map-range_with_len (λ k. byte_at part (address_of_byte c k)) 0 n i i 0 below (omega arith)
    ∙ of.same (address_of_byte c i) place.0 place.1)

-- the end of the last page is the end of the whole
pub total : (ps : List (List ℕ)) (k : ℕ) → ArePages ps → k + 1 ≡ length ps → length (concat ps) ≡ k * 4096 + length (page ps k)
total [] k are last = absurd (omega arith)
total (p ∷ []) zero are last = omega (arith, length-append p [])
total (p ∷ []) (suc k) are last = absurd (omega arith)
total (p ∷ q ∷ ps) zero are last = absurd (omega arith)
total (p ∷ q ∷ ps) (suc k) are last = omega (arith, length-append p (concat (q ∷ ps)), are.0, total (q ∷ ps) k are.1 (omega arith))

-- how many bytes follow in a page
pub left_in_page : (ps : List (List ℕ)) (k j : ℕ) → ArePages ps → IsAt ps k j → length (page ps k) - j ≡ min (4096 - j) (length (concat ps) - (k * 4096 + j))
left_in_page ps k j are there =
    let below = there.below in
    let inside = there.inside in
    let few = page_few ps k are in
    elim (cases_lt (k + 1) (length ps)) [
      | inl more ↦
          let full = page_full ps k are more in
          let all = within_all ps k 4096 are below (omega arith) in
          omega arith
      | inr last ↦
          let all = total ps k are (omega arith) in
          omega arith
    ]

-- the bytes of a page from an index are those of the whole from there
pub rest_of_page : (ps : List (List ℕ)) (k j n : ℕ) → ArePages ps → IsAt ps k j → n ≡ k * 4096 + j → take (length (page ps k) - j) (drop j (page ps k)) ≡ take (4096 - j) (drop n (concat ps))
rest_of_page ps k j n are there is =
    let left = left_in_page ps k j are there in
    let below = there.below in
    let inside = there.inside in
    let mine : length (take (length (page ps k) - j) (drop j (page ps k))) ≡ length (page ps k) - j = omega (arith, length-take (length (page ps k) - j) (drop j (page ps k)), length-drop j (page ps k)) in
    let all : length (take (4096 - j) (drop n (concat ps))) ≡ min (4096 - j) (length (concat ps) - n) = length-take (4096 - j) (drop n (concat ps)) ∙ ap (min (4096 - j)) (length-drop n (concat ps)) in
    same_number_lists (take (length (page ps k) - j) (drop j (page ps k))) (take (4096 - j) (drop n (concat ps))) (mine ∙ left ∙ rw (← is) (sym all)) (λ i short.
    let within : j + i < length (page ps k) = omega arith in
    let few = page_few ps k are in
    let index : k * 4096 + (j + i) ≡ n + i = omega arith in
    get_or-take (length (page ps k) - j) (drop j (page ps k)) i 0 (omega arith)
    ∙ get_or-drop j (page ps k) i 0
    ∙ sym (at_page ps k (j + i) are below within)
    ∙ ap (λ (m : ℕ). get_or (concat ps) m 0) index
    ∙ sym (get_or-take (4096 - j) (drop n (concat ps)) i 0 (omega arith) ∙ get_or-drop n (concat ps) i 0))

-- some bytes from an address are a part of memory
pub slice_is_part : (m : Memory) (n count address : ℕ) → address ≡ m.first + n → n ≤ length m.bytes → IsPartOf m (record { first = address; bytes = take count (drop n m.bytes) })
slice_is_part m n count address place below = record {
  above = omega arith;
  below = omega (arith, length-take count (drop n m.bytes), length-drop n m.bytes);
  same = λ x above inside.
      let i = x - address in
      let long = length-take count (drop n m.bytes) in
      let index : n + i ≡ x - m.first = omega arith in
      get_or-take count (drop n m.bytes) i 0 (omega (arith, length-drop n m.bytes)) ∙ get_or-drop n m.bytes i 0 ∙ ap (λ (j : ℕ). get_or m.bytes j 0) index;
}

pub put_takes : (start : ℕ) (xs part rest : List ℕ) → start ≤ length xs → take (start + length part) (take start xs ++ (part ++ rest)) ≡ take start xs ++ part
put_takes start xs part rest below =
    let long : length (take start xs) ≡ start = omega (arith, length-take start xs) in
    ap (λ (n : ℕ). take (n + length part) (take start xs ++ (part ++ rest))) (sym long)
    ∙ take-append-add (take start xs) (part ++ rest) (length part)
    ∙ ap (λ (l : List ℕ). take start xs ++ l) (take-append_seam part rest)

-- the page of a byte, and its index there
pub found : (ps : List (List ℕ)) (n : ℕ) → ArePages ps → n < length (concat ps) → IsAt ps (n / 4096) (n % 4096)
found ps n are below =
    let index : n / 4096 * 4096 + n % 4096 ≡ n = div-add-mod' n 4096 in
    is_at ps (n / 4096) (n % 4096) are (mod-lt n (omega arith)) (omega arith)

-- the bytes from a command's address are enough for it
pub is_within_slice : (c : CommandValue) (address size count : ℕ) (next : Bool) → address ≡ address_of c → 0 < size → next ≡ increments c → (next ≡ false) ⊎ ((next ≡ true) × (count ≤ size)) → IsDataWithin address size c count
is_within_slice c address size count next is some same enough = record {
  above = omega arith;
  below = omega arith;
  all = λ goes. elim enough [ inl again ↦ absurd cc | inr far ↦ omega (arith, far.1) ];
}

-- the bytes at the end of a page and those of the next follow each other in the whole
pub joined_slice : (all bytes next result : List ℕ) (offset count a b : ℕ) → bytes ≡ take a (drop offset all) → next ≡ take b (drop (offset + length bytes) all) → take (length bytes + length (take (count - length bytes) next)) result ≡ bytes ++ take (count - length bytes) next → length bytes < count → count - length bytes ≤ length next → take count result ≡ take count (drop offset all)
joined_slice all bytes next result offset count a b first second joined more enough =
    let l = drop offset all in
    let n = length bytes in
    let further : take b (drop (offset + n) all) ≡ take b (drop n l) = ap (λ (x : List ℕ). take b x) (sym (drop-drop n offset all)) in
    let long : n + length (take (count - n) next) ≡ count = omega (arith, length-take (count - n) next) in
    let begin : bytes ≡ take n l = sym (ap (λ (i : ℕ). take i l) (ap (λ (x : List ℕ). length x) first ∙ length-take a l) ∙ take_min a l ∙ sym first) in
    let fits : count - n ≤ length (take b (drop n l)) = omega (arith, ap (λ (x : List ℕ). length x) (second ∙ further)) in
    let rest : take (count - n) next ≡ take (count - n) (drop n l) =
    ap (λ (x : List ℕ). take (count - n) x) (second ∙ further)
    ∙ sym (ap (λ (x : List ℕ). take (count - n) x) (sym (take-append-drop b (drop n l))) ∙ take-append-le (count - n) (take b (drop n l)) (drop b (drop n l)) fits) in
    let sum : n + (count - n) ≡ count = omega arith in
    ap (λ (i : ℕ). take i result) (sym long) ∙ joined
    ∙ ap (λ (x : List ℕ). x ++ take (count - n) next) begin
    ∙ ap (λ (x : List ℕ). take n l ++ x) rest
    ∙ sym (take-add n (count - n) l)
    ∙ ap (λ (i : ℕ). take i l) sum

-- full pages of zeros
zeros_full : (n : ℕ) → AreFull (replicate n (replicate 4096 0))
zeros_full zero = tt
zeros_full (suc n) =
    let none : ℕ = 0 in
    (length-replicate 4096 none, zeros_full n)

full_are : (ps : List (List ℕ)) → AreFull ps → ArePages ps
full_are [] full = tt
full_are (p ∷ []) full = (omega (arith, full.0), omega (arith, full.0))
full_are (p ∷ q ∷ ps) full = (full.0, full_are (q ∷ ps) full.1)

are_pushed : (ps : List (List ℕ)) (q : List ℕ) → AreFull ps → 1 ≤ length q → length q ≤ 4096 → ArePages (ps ++ q ∷ [])
are_pushed [] q full some few = (some, few)
are_pushed (p ∷ []) q full some few = (full.0, (some, few))
are_pushed (p ∷ r ∷ ps) q full some few = (full.0, are_pushed (r ∷ ps) q full.1 some few)

zeros_joined : (n : ℕ) → concat (replicate n (replicate 4096 0)) ≡ replicate (n * 4096) 0
zeros_joined zero = refl
zeros_joined (suc n) =
    let sum : 4096 + n * 4096 ≡ suc n * 4096 = omega arith in
    ap (λ (l : List ℕ). replicate 4096 0 ++ l) (zeros_joined n) ∙ replicate-append-replicate 4096 (n * 4096) 0 ∙ ap (λ (m : ℕ). replicate m 0) sum

pub zeros_are : (ps : List (List ℕ)) (n : ℕ) → ps ≡ replicate n (replicate 4096 0) → ArePages ps
zeros_are ps n same = rw same (full_are (replicate n (replicate 4096 0)) (zeros_full n))

pub zeros_are_pushed : (ps : List (List ℕ)) (n rest : ℕ) → ps ≡ replicate n (replicate 4096 0) ++ replicate rest 0 ∷ [] → 0 < rest → rest < 4096 → ArePages ps
zeros_are_pushed ps n rest same some few =
    let none : ℕ = 0 in
    let long : length (replicate rest none) ≡ rest = length-replicate rest none in
    rw same (are_pushed (replicate n (replicate 4096 0)) (replicate rest 0) (zeros_full n) (omega (arith, long)) (omega (arith, long)))

pub zeros_join : (ps : List (List ℕ)) (n size : ℕ) → ps ≡ replicate n (replicate 4096 0) → n * 4096 ≡ size → concat ps ≡ replicate size 0
zeros_join ps n size same sum = ap concat same ∙ zeros_joined n ∙ ap (λ (m : ℕ). replicate m 0) sum

pub zeros_join_pushed : (ps : List (List ℕ)) (n rest size : ℕ) → ps ≡ replicate n (replicate 4096 0) ++ replicate rest 0 ∷ [] → n * 4096 + rest ≡ size → concat ps ≡ replicate size 0
zeros_join_pushed ps n rest size same sum =
    ap concat same ∙ concat-append (replicate n (replicate 4096 0)) (replicate rest 0 ∷ [])
    ∙ ap (λ (l : List ℕ). l ++ concat (replicate rest 0 ∷ [])) (zeros_joined n)
    ∙ ap (λ (l : List ℕ). replicate (n * 4096) 0 ++ l) (append-nil (replicate rest 0))
    ∙ replicate-append-replicate (n * 4096) rest 0 ∙ ap (λ (m : ℕ). replicate m 0) sum

-- the first n pages are those of other pages of the same lengths
pub record AreCopied (n : ℕ) (ps qs : List (List ℕ)) : Type 0 where
  pub alike : map length qs ≡ map length ps
  pub same : (k : ℕ) → k < n → page ps k ≡ page qs k

get_or-map_zero : (ps : List (List ℕ)) (k : ℕ) → get_or (map length ps) k 0 ≡ length (page ps k)
get_or-map_zero [] k = refl
get_or-map_zero (p ∷ ps) zero = refl
get_or-map_zero (p ∷ ps) (suc k) = get_or-map_zero ps k

pub page_long : (ps qs : List (List ℕ)) (k : ℕ) → map length qs ≡ map length ps → length (page qs k) ≡ length (page ps k)
page_long ps qs k alike = sym (get_or-map_zero qs k) ∙ ap (λ (l : List ℕ). get_or l k 0) alike ∙ get_or-map_zero ps k

pub as_many : (ps qs : List (List ℕ)) → map length qs ≡ map length ps → length qs ≡ length ps
as_many ps qs alike = sym (length-map qs length) ∙ ap (λ (l : List ℕ). length l) alike ∙ length-map ps length

pub one_copied : (ps qs : List (List ℕ)) (k : ℕ) → AreCopied k ps qs → k < length ps → AreCopied (k + 1) (set ps k (page qs k)) qs
one_copied ps qs k copied below =
    let long = page_long ps qs k copied.alike in
    record {
      alike = copied.alike ∙ sym (map-set_same length ps k (page qs k) [] long);
      same = λ n inside. elim (cases_eq n k) [
        | inl here ↦ rw here (get_or-set_same ps k (page qs k) [] below)
        | inr other ↦ get_or-set_other ps k n (page qs k) [] other ∙ copied.same n (omega arith)
      ];
    }

pub all_copied : (ps qs : List (List ℕ)) (n : ℕ) → AreCopied n ps qs → length qs ≤ n → ps ≡ qs
all_copied ps qs n copied enough =
    let many = as_many ps qs copied.alike in
    same_lists ps qs (sym many) (λ k d inside.
    get_or_default ps k d [] inside ∙ copied.same k (omega arith) ∙ get_or_default qs k [] d (omega arith))

-- pages of as many bytes in all have the same lengths
pub same_lengths : (ps qs : List (List ℕ)) → ArePages ps → ArePages qs → length (concat qs) ≡ length (concat ps) → map length qs ≡ map length ps
same_lengths [] [] a b e = refl
same_lengths [] (q ∷ []) a b e = absurd (omega (arith, length-append q [], b.0))
same_lengths [] (q ∷ r ∷ qs) a b e = absurd (omega (arith, length-append q (concat (r ∷ qs)), b.0))
same_lengths (p ∷ []) [] a b e = absurd (omega (arith, length-append p [], a.0))
same_lengths (p ∷ []) (q ∷ []) a b e = ap (λ (n : ℕ). n ∷ []) (omega (arith, length-append p [], length-append q []))
same_lengths (p ∷ []) (q ∷ r ∷ qs) a b e =
    let some = within_all (r ∷ qs) 0 1 b.1 (omega arith) (page_some (r ∷ qs) 0 b.1 (omega arith)) in
    absurd (omega (arith, length-append p [], length-append q (concat (r ∷ qs)), a.1, b.0, some))
same_lengths (p ∷ s ∷ ps) [] a b e = absurd (omega (arith, length-append p (concat (s ∷ ps)), a.0))
same_lengths (p ∷ s ∷ ps) (q ∷ []) a b e =
    let some = within_all (s ∷ ps) 0 1 a.1 (omega arith) (page_some (s ∷ ps) 0 a.1 (omega arith)) in
    absurd (omega (arith, length-append q [], length-append p (concat (s ∷ ps)), b.1, a.0, some))
same_lengths (p ∷ s ∷ ps) (q ∷ r ∷ qs) a b e =
    let head : length q ≡ length p = b.0 ∙ sym a.0 in
    let rest = same_lengths (s ∷ ps) (r ∷ qs) a.1 b.1 (omega (arith, length-append p (concat (s ∷ ps)), length-append q (concat (r ∷ qs)), a.0, b.0)) in
    ap (λ (l : List ℕ). length q ∷ l) rest ∙ ap (λ (n : ℕ). n ∷ map length (s ∷ ps)) head
