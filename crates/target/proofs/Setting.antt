-- Banks of a node that is not shared yet, of which one has bytes put into it.
use Rattle.std.proofs.Common.{◌≡◌, ◌<◌, ◌≤◌, ◌+◌, ◌-◌, ◌∙◌, ℕ, zero, suc, true, List, [], ◌∷◌, ◌++◌, length, map, get_or, set, take, drop, refl, sym, ap, subst, arith, length-append, length-take, length-drop}
use Rattle.std.specs.Prelude.{nat_le}
use Rattle.std.proofs.lemmas.Bool.{and_parts, leb-true}
use Rattle.std.proofs.lemmas.List.{get_or-map, length-map}
use Rattle.bank.specs.Effect.{overlaid}
use Rattle.bank.specs.Records.{BankValue, JournalValue, after_setting, covers, extent_of}
use Rattle.annals.specs.Banks.{KeptValue}
use Rattle.target.specs.Nodes.{AreInPlace}
use Rattle.target.specs.Unshared.{banks_of, chain_numbers, covers_at, with_setting}

-- ---- one bank

overlaid_long : (old bytes : List ℕ) (offset : ℕ) → offset + length bytes ≤ length old → length (overlaid offset old bytes) ≡ length old
overlaid_long old bytes offset inside =
    omega (arith, length-append (take offset old ++ bytes) (drop (offset + length bytes) old), length-append (take offset old) bytes, length-take offset old, length-drop (offset + length bytes) old)

-- a bank keeps its range
extent_stays : (bank : BankValue) (address : ℕ) (bytes : List ℕ) (fresh : JournalValue) → covers bank address (length bytes) ≡ true
    → extent_of (after_setting bank address bytes fresh) ≡ extent_of bank
extent_stays bank address bytes fresh inside =
    let parts = and_parts (nat_le bank.first address) (nat_le (address + length bytes) (bank.first + length bank.bytes)) inside in
    let above : bank.first ≤ address = leb-true bank.first address parts.0 in
    let below : address + length bytes ≤ bank.first + length bank.bytes = leb-true (address + length bytes) (bank.first + length bank.bytes) parts.1 in
    ap (λ (n : ℕ). (bank.first, n)) (overlaid_long bank.bytes bytes (address - bank.first) (omega (arith, above, below)))

-- ---- all of them

-- the bank that covers bytes is there
pub covered_below : (banks : List BankValue) (number address count : ℕ) → covers_at banks number address count ≡ true → number < length banks
covered_below [] number address count is = absurd (cc is)
covered_below (bank ∷ banks) zero address count is = omega arith
covered_below (bank ∷ banks) (suc number) address count is = omega (arith, covered_below banks number address count is)

-- what was found at the place covers the bytes
pub covered_there : (kept : List KeptValue) (number address count : ℕ) (one : KeptValue) → one ≡ get_or kept number one → covers_at (banks_of kept) number address count ≡ true
    → covers one.bank address count ≡ true
covered_there [] number address count one at is = absurd (cc is)
covered_there (k ∷ kept) zero address count one at is = ap (λ (v : KeptValue). covers v.bank address count) at ∙ is
covered_there (k ∷ kept) (suc number) address count one at is = covered_there kept number address count one at is

-- the bank of that number is set
pub set_there : (kept : List KeptValue) (number address : ℕ) (bytes : List ℕ) (fresh : JournalValue) (one new : KeptValue) → number < length kept → one ≡ get_or kept number one
    → new.bank ≡ after_setting one.bank address bytes fresh → banks_of (set kept number new) ≡ with_setting (banks_of kept) number address bytes fresh
set_there [] number address bytes fresh one new low at is = absurd (omega (arith, low))
set_there (k ∷ kept) zero address bytes fresh one new low at is =
    ap (λ (b : BankValue). b ∷ banks_of kept) (is ∙ ap (λ (v : KeptValue). after_setting v.bank address bytes fresh) at)
set_there (k ∷ kept) (suc number) address bytes fresh one new low at is =
    ap (λ (l : List BankValue). k.bank ∷ l) (set_there kept number address bytes fresh one new (omega (arith, low)) at is)

-- the ranges of the banks stay
pub extents_with : (banks : List BankValue) (number address : ℕ) (bytes : List ℕ) (fresh : JournalValue) → covers_at banks number address (length bytes) ≡ true
    → map extent_of (with_setting banks number address bytes fresh) ≡ map extent_of banks
extents_with [] number address bytes fresh is = refl
extents_with (bank ∷ banks) zero address bytes fresh is =
    ap (λ (e : ℕ × ℕ). e ∷ map extent_of banks) (extent_stays bank address bytes fresh is)
extents_with (bank ∷ banks) (suc number) address bytes fresh is =
    ap (λ (l : List (ℕ × ℕ)). extent_of bank ∷ l) (extents_with banks number address bytes fresh is)

-- the numbers of chains stay
pub numbers_stay : (kept : List KeptValue) (number : ℕ) (one new : KeptValue) → number < length kept → one ≡ get_or kept number one → new.chain.number ≡ one.chain.number
    → chain_numbers (set kept number new) ≡ chain_numbers kept
numbers_stay [] number one new low at same = absurd (omega (arith, low))
numbers_stay (k ∷ kept) zero one new low at same =
    ap (λ (n : ℕ). n ∷ chain_numbers kept) (same ∙ ap (λ (v : KeptValue). v.chain.number) at)
numbers_stay (k ∷ kept) (suc number) one new low at same =
    ap (λ (l : List ℕ). k.chain.number ∷ l) (numbers_stay kept number one new (omega (arith, low)) at same)

-- the number of what was found at a place
pub number_there : (kept : List KeptValue) (number : ℕ) (one : KeptValue) → number < length kept → one ≡ get_or kept number one → AreInPlace (chain_numbers kept)
    → one.chain.number ≡ number
number_there kept number one low at are =
    ap (λ (v : KeptValue). v.chain.number) at ∙ sym (get_or-map (λ (v : KeptValue). v.chain.number) kept number one 0 low) ∙ are number (omega (arith, low, length-map kept (λ (v : KeptValue). v.chain.number)))

-- ---- as a node shows them

-- the node shows those banks, and that one was found at the place of that number
pub record IsFoundAt (shown : List BankValue) (kept : List KeptValue) (number place address count : ℕ) (one : KeptValue) : Type 0 where
  pub view_is : banks_of kept ≡ shown
  pub place_is : place ≡ number
  pub read : one ≡ get_or kept place one
  pub inside : covers_at shown number address count ≡ true

pub found_covers : {shown : List BankValue} {kept : List KeptValue} {number place address count : ℕ} {one : KeptValue} → IsFoundAt shown kept number place address count one → covers_at (banks_of kept) place address count ≡ true
found_covers {shown} {kept} {number} {place} {address} {count} found =
    ap (λ (l : List BankValue). covers_at l place address count) found.view_is ∙ ap (λ (n : ℕ). covers_at shown n address count) found.place_is ∙ found.inside

pub place_below : (shown : List BankValue) (kept : List KeptValue) (number place address count : ℕ) → banks_of kept ≡ shown → place ≡ number → covers_at shown number address count ≡ true → place < length kept
place_below shown kept number place address count view_is place_is inside =
    omega (arith, covered_below shown number address count inside, place_is, ap (λ (l : List BankValue). length l) view_is, length-map kept (λ (k : KeptValue). k.bank))

pub found_below : {shown : List BankValue} {kept : List KeptValue} {number place address count : ℕ} {one : KeptValue} → IsFoundAt shown kept number place address count one → place < length kept
found_below {shown} {kept} {number} {place} {address} {count} found = place_below shown kept number place address count found.view_is found.place_is found.inside

pub found_inside : {shown : List BankValue} {kept : List KeptValue} {number place address count : ℕ} {one : KeptValue} → IsFoundAt shown kept number place address count one → covers one.bank address count ≡ true
found_inside {kept = kept} {place = place} {address = address} {count = count} {one = one} found = covered_there kept place address count one found.read (found_covers found)

-- what the node shows when it is set
pub found_set : {shown : List BankValue} {kept : List KeptValue} {number place address : ℕ} {one : KeptValue} (bytes : List ℕ) (fresh : JournalValue) (new : KeptValue) → IsFoundAt shown kept number place address (length bytes) one
    → new.bank ≡ after_setting one.bank address bytes fresh → banks_of (set kept place new) ≡ with_setting shown number address bytes fresh
found_set {shown} {kept} {number} {place} {address} {one} bytes fresh new found is =
    set_there kept place address bytes fresh one new (found_below found) found.read is
    ∙ ap (λ (l : List BankValue). with_setting l place address bytes fresh) found.view_is ∙ ap (λ (n : ℕ). with_setting shown n address bytes fresh) found.place_is

pub found_number : {shown : List BankValue} {kept : List KeptValue} {number place address count : ℕ} {one : KeptValue} → IsFoundAt shown kept number place address count one → AreInPlace (chain_numbers kept) → one.chain.number ≡ number
found_number {kept = kept} {place = place} {one = one} found are = number_there kept place one (found_below found) found.read are ∙ found.place_is

pub found_numbers : {shown : List BankValue} {kept : List KeptValue} {number place address count : ℕ} {one : KeptValue} (new : KeptValue) → IsFoundAt shown kept number place address count one → AreInPlace (chain_numbers kept)
    → new.chain.number ≡ one.chain.number → AreInPlace (chain_numbers (set kept place new))
found_numbers {kept = kept} {place = place} {one = one} new found are same =
    subst AreInPlace (sym (numbers_stay kept place one new (found_below found) found.read same)) are
