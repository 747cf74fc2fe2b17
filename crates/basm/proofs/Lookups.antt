-- Looking for a name among pairs.
use Rattle.std.proofs.Common.{◌≡◌, Bor, Bool, true, false, ℕ, List, [], ◌∷◌, ◌++◌, Option, Some, None, map, refl, sym, ap, ◌∙◌, subst, cond, inl, inr}
use Rattle.std.specs.Prelude.{◌≢◌, ◌↔◌, ◌⊎◌}
use Rattle.std.specs.Option.{option_or, is_some}
use Rattle.std.specs.Map.{lookup, update}
use Rattle.std.specs.BTreeMap.{BTreeMap, UpdatesBy}
use Rattle.std.specs.Str.{bytes_eq}
use Rattle.std.specs.Ordering.{nat_cmp, is_eq}
use Rattle.std.specs.Cmp.Lexicographic.{slice_cmp}
use Rattle.std.proofs.lemmas.Bool.{cases_Bool, cond-true, cond-false, false_from_ne_true, true≢false}
use Rattle.std.proofs.lemmas.Option.{none-some, same_Some}
use Rattle.std.proofs.lemmas.Slice.Eq.{bytes_eq-Decides}
use Rattle.std.proofs.lemmas.Map.Text.{btree_map_updates_str, is_eq-slice_cmp}
use Rattle.basm.specs.Names.{slot_named}
use Rattle.basm.specs.Relation.{AreDistinctNames, Defines, IsFree}

pub lookup_map : {K L X : Type 0} (view : K → L) (test : L → Bool) (entries : List (K × X))
    → lookup test (map (λ entry. (view entry.0, entry.1)) entries) ≡ lookup (λ key. test (view key)) entries
lookup_map view test [] = refl
lookup_map view test (e ∷ es) = rw (lookup_map view test es)

-- ---- bytes that are the same or not

pub same_bytes : (xs : List ℕ) → bytes_eq xs xs ≡ true
same_bytes xs = (bytes_eq-Decides xs xs).1 refl

pub apart_bytes : (xs ys : List ℕ) → xs ≢ ys → bytes_eq xs ys ≡ false
apart_bytes xs ys apart = false_from_ne_true (bytes_eq xs ys) (λ same. apart ((bytes_eq-Decides xs ys).0 same))

pub cases_bytes : (xs ys : List ℕ) → (xs ≡ ys) ⊎ (xs ≢ ys)
cases_bytes xs ys = elim (cases_Bool (bytes_eq xs ys)) [
  | inl same ↦ inl ((bytes_eq-Decides xs ys).0 same)
  | inr other ↦ inr (λ same. true≢false (sym ((bytes_eq-Decides xs ys).1 same) ∙ other))
]

-- ---- the slot of a name

pub at_pair : (pair : List ℕ × ℕ) (pairs : List (List ℕ × ℕ)) (name : List ℕ) → pair.0 ≡ name → slot_named (pair ∷ pairs) name ≡ Some pair.1
at_pair pair pairs name same =
    cond-true (is_eq (slice_cmp nat_cmp name pair.0)) (Some pair.1) (slot_named pairs name) (is_eq-slice_cmp name pair.0 ∙ (bytes_eq-Decides name pair.0).1 (sym same))

pub past_pair : (pair : List ℕ × ℕ) (pairs : List (List ℕ × ℕ)) (name : List ℕ) → pair.0 ≢ name → slot_named (pair ∷ pairs) name ≡ slot_named pairs name
past_pair pair pairs name apart =
    cond-false (is_eq (slice_cmp nat_cmp name pair.0)) (Some pair.1) (slot_named pairs name) (is_eq-slice_cmp name pair.0 ∙ apart_bytes name pair.0 (λ same. apart (sym same)))

-- a pair after others counts only if they do not have such a name
pub slot_named-push : (pairs : List (List ℕ × ℕ)) (name : List ℕ) (slot : ℕ) (other : List ℕ)
    → slot_named (pairs ++ (name, slot) ∷ []) other ≡ option_or (slot_named pairs other) (cond (bytes_eq other name) (Some slot) None)
slot_named-push [] name slot other = ap (λ (t : Bool). cond t (Some slot) None) (is_eq-slice_cmp other name)
slot_named-push (pair ∷ pairs) name slot other =
    elim (is_eq (slice_cmp nat_cmp other pair.0)) as (λ t. cond t (Some pair.1) (slot_named (pairs ++ (name, slot) ∷ []) other) ≡ option_or (cond t (Some pair.1) (slot_named pairs other)) (cond (bytes_eq other name) (Some slot) None)) [
      | true ↦ refl
      | false ↦ slot_named-push pairs name slot other
    ]

pub or_none : {X : Type 0} (o : Option X) → option_or o None ≡ o
or_none None = refl
or_none (Some x) = refl

-- a name that is there keeps its slot
pub known_keeps : (old : List ℕ → Option ℕ) (name : List ℕ) (slot : ℕ) (other : List ℕ) → is_some (old name) ≡ true
    → old other ≡ option_or (old other) (cond (bytes_eq other name) (Some slot) None)
known_keeps old name slot other known = elim (cases_bytes other name) [
  | inl same ↦ some (old other) (ap (λ (n : List ℕ). is_some (old n)) same ∙ known)
  | inr apart ↦ sym (ap (λ (t : Bool). option_or (old other) (cond t (Some slot) None)) (apart_bytes other name apart) ∙ or_none (old other))
]
  where
    some : (o : Option ℕ) → is_some o ≡ true → o ≡ option_or o (cond (bytes_eq other name) (Some slot) None)
    some None known = absurd (true≢false (sym known))
    some (Some x) known = refl

-- a name that is not there gets the slot
pub unknown_gets : (old : List ℕ → Option ℕ) (name : List ℕ) (slot : ℕ) (other : List ℕ) → old name ≡ None
    → update bytes_eq old name (Some slot) other ≡ option_or (old other) (cond (bytes_eq other name) (Some slot) None)
unknown_gets old name slot other unknown = elim (cases_bytes other name) [
  | inl same ↦
      let here = (bytes_eq-Decides other name).1 same in let there = (bytes_eq-Decides name other).1 (sym same) in
      let none : old other ≡ None = ap old same ∙ unknown in
      rw (here, there, none) refl
  | inr apart ↦
      let here = apart_bytes other name apart in let there = apart_bytes name other (λ same. apart (sym same)) in
      rw (here, there, or_none (old other)) refl
]

-- ---- names that are apart

pub none_from_free : (pairs : List (List ℕ × ℕ)) (name : List ℕ) → IsFree pairs name → slot_named pairs name ≡ None
none_from_free [] name free = refl
none_from_free (pair ∷ pairs) name free = past_pair pair pairs name free.0 ∙ none_from_free pairs name free.1

pub free_from_none : (pairs : List (List ℕ × ℕ)) (name : List ℕ) → slot_named pairs name ≡ None → IsFree pairs name
free_from_none [] name none = tt
free_from_none (pair ∷ pairs) name none = elim (cases_bytes pair.0 name) [
  | inl same ↦ absurd (none-some pair.1 (sym none ∙ at_pair pair pairs name same))
  | inr apart ↦ (apart, free_from_none pairs name (sym (past_pair pair pairs name apart) ∙ none))
]

free_push : (pairs : List (List ℕ × ℕ)) (pair : List ℕ × ℕ) (name : List ℕ) → IsFree pairs name → pair.0 ≢ name → IsFree (pairs ++ pair ∷ []) name
free_push [] pair name free apart = (apart, tt)
free_push (p ∷ pairs) pair name free apart = (free.0, free_push pairs pair name free.1 apart)

free_parts : (pairs : List (List ℕ × ℕ)) (pair : List ℕ × ℕ) (name : List ℕ) → IsFree (pairs ++ pair ∷ []) name → IsFree pairs name × (pair.0 ≢ name)
free_parts [] pair name free = (tt, free.0)
free_parts (p ∷ pairs) pair name free = let rest = free_parts pairs pair name free.1 in ((free.0, rest.0), rest.1)

apart_push : (pairs : List (List ℕ × ℕ)) (pair : List ℕ × ℕ) → AreDistinctNames pairs → IsFree pairs pair.0 → AreDistinctNames (pairs ++ pair ∷ [])
apart_push [] pair apart free = (tt, tt)
apart_push (p ∷ pairs) pair apart free =
    (free_push pairs pair p.0 apart.0 (λ same. free.0 (sym same)), apart_push pairs pair apart.1 free.1)

apart_parts : (pairs : List (List ℕ × ℕ)) (pair : List ℕ × ℕ) → AreDistinctNames (pairs ++ pair ∷ []) → AreDistinctNames pairs × IsFree pairs pair.0
apart_parts [] pair apart = (tt, tt)
apart_parts (p ∷ pairs) pair apart =
    let front = free_parts pairs pair p.0 apart.0 in let rest = apart_parts pairs pair apart.1 in
    ((front.0, rest.0), (λ same. front.1 (sym same), rest.1))

-- one more name leaves them apart if none of them is it
pub apart_more : (pairs : List (List ℕ × ℕ)) (name : List ℕ) (slot : ℕ) → AreDistinctNames (pairs ++ (name, slot) ∷ []) ↔ (AreDistinctNames pairs × (slot_named pairs name ≡ None))
apart_more pairs name slot = (
  λ apart. let parts = apart_parts pairs (name, slot) apart in (parts.0, none_from_free pairs name parts.1),
  λ h. apart_push pairs (name, slot) h.0 (free_from_none pairs name h.1),
)

free_undefined : (pairs : List (List ℕ × ℕ)) (name : List ℕ) (slot : ℕ) → IsFree pairs name → Defines pairs name slot → ⊥
free_undefined [] name slot free defines = defines
free_undefined (pair ∷ pairs) name slot free (inl here) = free.0 here.0
free_undefined (pair ∷ pairs) name slot free (inr there) = free_undefined pairs name slot free.1 there

defines_from : (pairs : List (List ℕ × ℕ)) (name : List ℕ) (slot : ℕ) → slot_named pairs name ≡ Some slot → Defines pairs name slot
defines_from [] name slot found = none-some slot found
defines_from (pair ∷ pairs) name slot found = elim (cases_bytes pair.0 name) [
  | inl same ↦ inl (same, same_Some pair.1 slot (sym (at_pair pair pairs name same) ∙ found))
  | inr apart ↦ inr (defines_from pairs name slot (sym (past_pair pair pairs name apart) ∙ found))
]

found_from : (pairs : List (List ℕ × ℕ)) (name : List ℕ) (slot : ℕ) → AreDistinctNames pairs → Defines pairs name slot → slot_named pairs name ≡ Some slot
found_from [] name slot apart defines = absurd defines
found_from (pair ∷ pairs) name slot apart (inl here) = at_pair pair pairs name here.0 ∙ ap Some here.1
found_from (pair ∷ pairs) name slot apart (inr there) =
    past_pair pair pairs name (λ same. let P : List ℕ → Type 0 = λ n. IsFree pairs n in free_undefined pairs name slot (subst P same apart.0) there)
    ∙ found_from pairs name slot apart.1 there

-- names that are apart have the slots that they are defined with
pub slot_named-Defines : (pairs : List (List ℕ × ℕ)) → AreDistinctNames pairs → (name : List ℕ) (slot : ℕ) → (slot_named pairs name ≡ Some slot) ↔ Defines pairs name slot
slot_named-Defines pairs apart name slot = (defines_from pairs name slot, found_from pairs name slot apart)

-- ---- names that lie in a map

abbrev Entries : Type 0
Entries = List (Bor (List ℕ) × ℕ)

abbrev pub seen : Entries → List (List ℕ × ℕ)
seen entries = map (λ entry. (entry.0.now, entry.1)) entries

abbrev pub entry_named : Entries → List ℕ → Option ℕ
entry_named entries name = lookup (λ key. is_eq (slice_cmp nat_cmp name key.now)) entries

-- a name that is there
pub seen_known : (pairs : List (List ℕ × ℕ)) (entries : Entries) (name : List ℕ) (slot : ℕ) → seen entries ≡ pairs → is_some (entry_named entries name) ≡ true
    → (other : List ℕ) → slot_named pairs other ≡ slot_named (pairs ++ (name, slot) ∷ []) other
seen_known pairs entries name slot view known other =
    let found : slot_named pairs name ≡ entry_named entries name = ap (λ (ps : List (List ℕ × ℕ)). slot_named ps name) (sym view) ∙ lookup_map (λ key. key.now) (λ key. is_eq (slice_cmp nat_cmp name key)) entries in
    known_keeps (slot_named pairs) name slot other (ap is_some found ∙ known) ∙ sym (slot_named-push pairs name slot other)

pub seen_is_some : (pairs : List (List ℕ × ℕ)) (entries : Entries) (name : List ℕ) (t : Bool) → seen entries ≡ pairs → t ≡ is_some (entry_named entries name)
    → is_some (slot_named pairs name) ≡ t
seen_is_some pairs entries name t view known =
    ap is_some (ap (λ (ps : List (List ℕ × ℕ)). slot_named ps name) (sym view) ∙ lookup_map (λ key. key.now) (λ key. is_eq (slice_cmp nat_cmp name key)) entries) ∙ sym known

pub none_from_false : {X : Type 0} (o : Option X) → is_some o ≡ false → o ≡ None
none_from_false None h = refl
none_from_false (Some x) h = absurd (true≢false h)

pub none_from_others : {X : Type 0} (o : Option X) → ((x : X) → o ≡ Some x → ⊥) → o ≡ None
none_from_others None others = refl
none_from_others (Some x) others = absurd (others x refl)

-- a name that is new
pub seen_new : (pairs : List (List ℕ × ℕ)) (old new : BTreeMap (Bor (List ℕ)) ℕ) (name : List ℕ) (slot : ℕ) → seen old.entries ≡ pairs
    → is_some (slot_named pairs name) ≡ false
    → UpdatesBy (λ x y. slice_cmp nat_cmp x.now y.now) (λ k. slice_cmp nat_cmp name k.now) old new (Some slot)
    → (other : List ℕ) → slot_named (seen new.entries) other ≡ slot_named (pairs ++ (name, slot) ∷ []) other
seen_new pairs old new name slot view unknown updates other =
    let at : (n : List ℕ) → slot_named pairs n ≡ entry_named old.entries n = λ n. ap (λ (ps : List (List ℕ × ℕ)). slot_named ps n) (sym view) ∙ lookup_map (λ key. key.now) (λ key. is_eq (slice_cmp nat_cmp n key)) old.entries in
    let none : entry_named old.entries name ≡ None = sym (at name) ∙ none_from_false (slot_named pairs name) unknown in
    lookup_map (λ key. key.now) (λ key. is_eq (slice_cmp nat_cmp other key)) new.entries
    ∙ btree_map_updates_str name old new (Some slot) updates other
    ∙ unknown_gets (entry_named old.entries) name slot other none
    ∙ ap (λ (o : Option ℕ). option_or o (cond (bytes_eq other name) (Some slot) None)) (sym (at other))
    ∙ sym (slot_named-push pairs name slot other)
