-- One line more that may give a name to a range without use.
use Rattle.std.specs.Prelude.{◌||◌, is_some, not}
use Rattle.std.proofs.Common.{◌≡◌, ◌++◌, ◌∷◌, [], Bor, Bool, true, false, cond, ℕ, suc, List, Option, Some, None, refl, sym, ap, ◌∙◌}
use Rattle.std.specs.List.{list_any}
use Rattle.std.specs.Option.{option_or}
use Rattle.std.specs.Str.{bytes_eq}
use Rattle.policy_table.specs.Ranges.{place_in}
use Rattle.std.proofs.lemmas.List.{append_assoc}
use Rattle.policy_table.specs.Unused.{AreUsed, has_name, is_named_by_none, is_unused, is_this_word, number_if, unused_from}

-- what is found in a line and in those after it comes after what was found before
pub more_unused : (all lines : List (List ℕ)) (line : List ℕ) (rest : List (List ℕ)) (number next : ℕ) (before after whole : List ℕ) → lines ≡ line ∷ rest → next ≡ suc number
    → after ≡ before ++ number_if (is_unused all line) next → before ++ unused_from all (suc number) lines ≡ whole → after ++ unused_from all (suc next) rest ≡ whole
more_unused all lines line rest number next before after whole is one added known =
    ap (λ (found : List ℕ). found ++ unused_from all (suc next) rest) added
    ∙ append_assoc before (number_if (is_unused all line) next) (unused_from all (suc next) rest)
    ∙ ap (λ (k : ℕ). before ++ (number_if (is_unused all line) k ++ unused_from all (suc k) rest)) one
    ∙ ap (λ (left : List (List ℕ)). before ++ unused_from all (suc number) left) (sym is)
    ∙ known

-- ---- the words that lines have

abbrev Entries : Type 0
Entries = List (Bor (List ℕ) × ℕ)

or_some : (o : Option ℕ) (t : Bool) (number : ℕ) → is_some (option_or o (cond t (Some number) None)) ≡ (is_some o || t)
or_some None true number = refl
or_some None false number = refl
or_some (Some x) t number = refl

or_false : (t : Bool) → t ≡ (t || false)
or_false true = refl
or_false false = refl

-- one word more
pub used_more : (entries after : Entries) (word name : List ℕ) (number : ℕ) → place_in after name ≡ option_or (place_in entries name) (cond (bytes_eq word name) (Some number) None)
    → is_some (place_in after name) ≡ (is_some (place_in entries name) || is_this_word (Some word) name)
used_more entries after word name number added = ap (λ (o : Option ℕ). is_some o) added ∙ or_some (place_in entries name) (bytes_eq word name) number

pub used_same : (entries : Entries) (name : List ℕ) → is_some (place_in entries name) ≡ (is_some (place_in entries name) || is_this_word None name)
used_same entries name = or_false (is_some (place_in entries name))

joined : (a b c : Bool) → ((a || b) || c) ≡ (a || (b || c))
joined true b c = refl
joined false b c = refl

-- the words of one line more, and those of the lines that are left
pub used_behind : (entries after : Entries) (line : List ℕ) (lines rest : List (List ℕ)) (name : List ℕ) (whole : Bool) → lines ≡ line ∷ rest
    → is_some (place_in after name) ≡ (is_some (place_in entries name) || has_name name line) → (is_some (place_in entries name) || list_any (has_name name) lines) ≡ whole
    → (is_some (place_in after name) || list_any (has_name name) rest) ≡ whole
used_behind entries after line lines rest name whole is added known =
    ap (λ (t : Bool). t || list_any (has_name name) rest) added ∙ joined (is_some (place_in entries name)) (has_name name line) (list_any (has_name name) rest)
    ∙ ap (λ (left : List (List ℕ)). is_some (place_in entries name) || list_any (has_name name) left) (sym is) ∙ known

pub used_at_end : (entries : Entries) (lines : List (List ℕ)) (name : List ℕ) (whole : Bool) → lines ≡ [] → (is_some (place_in entries name) || list_any (has_name name) lines) ≡ whole → is_some (place_in entries name) ≡ whole
used_at_end entries lines name whole end known =
    or_false (is_some (place_in entries name)) ∙ ap (λ (left : List (List ℕ)). is_some (place_in entries name) || list_any (has_name name) left) (sym end) ∙ known

-- a name that is none of them
pub none_used : (entries : Entries) (lines : List (List ℕ)) (name : List ℕ) (known : Bool) → known ≡ is_some (place_in entries name) → AreUsed entries lines → not known ≡ is_named_by_none lines (Some name)
none_used entries lines name known is are = ap (λ (t : Bool). not t) (is ∙ are name)
