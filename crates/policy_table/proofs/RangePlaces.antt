-- The places of ranges, by their names.
use Rattle.std.specs.Prelude.{slice_get, option_map}
use Rattle.std.proofs.Common.{◌≡◌, Bor, ℕ, suc, Bool, true, false, List, [], ◌∷◌, ◌++◌, length, Option, Some, None, refl, sym, ap, ◌∙◌, cond, inl, inr}
use Rattle.std.specs.Option.{option_or, is_some}
use Rattle.std.specs.BTreeMap.{BTreeMap, UpdatesBy}
use Rattle.std.specs.Str.{bytes_eq}
use Rattle.std.specs.Ordering.{nat_cmp}
use Rattle.std.specs.Cmp.Lexicographic.{slice_cmp}
use Rattle.std.proofs.lemmas.Bool.{cases_Bool, true≢false}
use Rattle.std.proofs.lemmas.Slice.Eq.{bytes_eq-Decides}
use Rattle.std.proofs.lemmas.Map.Text.{btree_map_updates_str}
use Rattle.std.proofs.lemmas.List.{length-map, map-append}
use Rattle.std.proofs.lemmas.Option.{slice_get-map}
use Rattle.policy_table.specs.Ranges.{ArePlaces, RangeText, place_in, place_named, range_named, range_text, range_texts}
use Rattle.policy_table.specs.declared.ranges.NamedRange.{NamedRange}

-- ---- the range of a place

abbrev pub at : List RangeText → Option ℕ → Option RangeText
at ranges None = None
at ranges (Some place) = slice_get ranges place

later : (range : RangeText) (ranges : List RangeText) (place : Option ℕ) → at ranges place ≡ at (range ∷ ranges) (option_map suc place)
later range ranges None = refl
later range ranges (Some place) = refl

pub named_at : (ranges : List RangeText) (name : List ℕ) → range_named ranges name ≡ at ranges (place_named ranges name)
named_at [] name = refl
named_at (range ∷ ranges) name =
    elim (bytes_eq range.name name) as (λ t. cond t (Some range) (range_named ranges name) ≡ at (range ∷ ranges) (cond t (Some 0) (option_map suc (place_named ranges name)))) [
      | true ↦ refl
      | false ↦ named_at ranges name ∙ later range ranges (place_named ranges name)
    ]

-- ---- one range more

later_or : (place other : Option ℕ) (t : Bool) (count : ℕ)
    → option_map suc (option_or place (cond t (Some count) None)) ≡ option_or (option_map suc place) (cond t (Some (suc count)) None)
later_or None other true count = refl
later_or None other false count = refl
later_or (Some place) other t count = refl

pub place_push : (ranges : List RangeText) (range : RangeText) (name : List ℕ)
    → place_named (ranges ++ range ∷ []) name ≡ option_or (place_named ranges name) (cond (bytes_eq range.name name) (Some (length ranges)) None)
place_push [] range name = refl
place_push (own ∷ ranges) range name =
    elim (bytes_eq own.name name) as (λ t. cond t (Some 0) (option_map suc (place_named (ranges ++ range ∷ []) name)) ≡ option_or (cond t (Some 0) (option_map suc (place_named ranges name))) (cond (bytes_eq range.name name) (Some (suc (length ranges))) None)) [
      | true ↦ refl
      | false ↦ ap (λ (o : Option ℕ). option_map suc o) (place_push ranges range name) ∙ later_or (place_named ranges name) None (bytes_eq range.name name) (length ranges)
    ]

-- ---- one name more

or_none : (o : Option ℕ) → o ≡ option_or o None
or_none None = refl
or_none (Some x) = refl

or_some : (o other : Option ℕ) → is_some o ≡ true → o ≡ option_or o other
or_some None other known = absurd (true≢false (sym known))
or_some (Some x) other known = refl

none_from_false : (o : Option ℕ) → is_some o ≡ false → o ≡ None
none_from_false None h = refl
none_from_false (Some x) h = absurd (true≢false h)

-- a name that has a place keeps it
pub known_keeps : (old : List ℕ → Option ℕ) (name : List ℕ) (place : ℕ) (other : List ℕ) → is_some (old name) ≡ true
    → old other ≡ option_or (old other) (cond (bytes_eq name other) (Some place) None)
known_keeps old name place other known = elim (cases_Bool (bytes_eq name other)) [
  | inl same ↦ or_some (old other) (cond (bytes_eq name other) (Some place) None) (sym (ap (λ (n : List ℕ). is_some (old n)) ((bytes_eq-Decides name other).0 same)) ∙ known)
  | inr apart ↦ or_none (old other) ∙ sym (ap (λ (t : Bool). option_or (old other) (cond t (Some place) None)) apart)
]

-- a name that has none gets it
unknown_gets : (old : List ℕ → Option ℕ) (name : List ℕ) (place : ℕ) (other : List ℕ) → old name ≡ None
    → cond (bytes_eq name other) (Some place) (old other) ≡ option_or (old other) (cond (bytes_eq name other) (Some place) None)
unknown_gets old name place other unknown = elim (cases_Bool (bytes_eq name other)) [
  | inl same ↦
      let none : old other ≡ None = sym (ap old ((bytes_eq-Decides name other).0 same)) ∙ unknown in
      rw (same, none) refl
  | inr apart ↦ rw apart (or_none (old other))
]

pub new_gets : (old new : BTreeMap (Bor (List ℕ)) ℕ) (name : List ℕ) (place : ℕ) → false ≡ is_some (place_in old.entries name)
    → UpdatesBy (λ x y. slice_cmp nat_cmp x.now y.now) (λ k. slice_cmp nat_cmp name k.now) old new (Some place)
    → (other : List ℕ) → place_in new.entries other ≡ option_or (place_in old.entries other) (cond (bytes_eq name other) (Some place) None)
new_gets old new name place unknown updates other =
    btree_map_updates_str name old new (Some place) updates other
    ∙ unknown_gets (λ n. place_in old.entries n) name place other (none_from_false (place_in old.entries name) (sym unknown))

-- ---- a map that has the places

abbrev Entries : Type 0
Entries = List (Bor (List ℕ) × ℕ)

pub found_there : (ranges : List NamedRange) (entries : Entries) (name : List ℕ) (place : ℕ) → ArePlaces entries (range_texts ranges)
    → Some place ≡ place_in entries name → option_map range_text (slice_get ranges place) ≡ range_named (range_texts ranges) name
found_there ranges entries name place are found =
    sym (slice_get-map range_text ranges place) ∙ ap (λ (o : Option ℕ). at (range_texts ranges) o) (found ∙ are name) ∙ sym (named_at (range_texts ranges) name)

pub found_nowhere : (ranges : List NamedRange) (entries : Entries) (name : List ℕ) → ArePlaces entries (range_texts ranges)
    → None ≡ place_in entries name → None ≡ range_named (range_texts ranges) name
found_nowhere ranges entries name are none =
    ap (λ (o : Option ℕ). at (range_texts ranges) o) (none ∙ are name) ∙ sym (named_at (range_texts ranges) name)

pub places_push : (ranges pushed : List NamedRange) (range : NamedRange) (entries after : Entries) (count : ℕ) → ArePlaces entries (range_texts ranges)
    → count ≡ length ranges → pushed ≡ ranges ++ range ∷ []
    → ((other : List ℕ) → place_in after other ≡ option_or (place_in entries other) (cond (bytes_eq range.name.now other) (Some count) None))
    → ArePlaces after (range_texts pushed)
places_push ranges pushed range entries after count are counted added new = λ name.
    let t : Bool = bytes_eq range.name.now name in
    let texts : List RangeText = range_texts ranges in
    let whole : range_texts pushed ≡ texts ++ range_text range ∷ [] = ap (λ (rs : List NamedRange). range_texts rs) added ∙ map-append range_text ranges (range ∷ []) in
    new name
    ∙ ap (λ (o : Option ℕ). option_or o (cond t (Some count) None)) (are name)
    ∙ ap (λ (k : ℕ). option_or (place_named texts name) (cond t (Some k) None)) (counted ∙ sym (length-map ranges range_text))
    ∙ sym (place_push texts (range_text range) name)
    ∙ ap (λ (rs : List RangeText). place_named rs name) (sym whole)
