-- Two courses, a rule at a time.
use Rattle.std.proofs.Common.{◌≡◌, ◌<◌, ◌+◌, ◌&&◌, ℕ, suc, Bool, true, false, List, [], ◌∷◌, length, get_or, not, drop, drop-cons, add-one, refl, ap, sym, subst, true≢false, arith, is_none, ◌∙◌}
use Rattle.std.specs.Prelude.{Option, Some, None, if◌then◌else◌}
use Rattle.std.specs.Bool.{beq}
use Rattle.policy_table.specs.declared.rules.Quota.{Quota}
use Rattle.policy_table.specs.declared.rules.Rule.{Rule}
use Rattle.regions.specs.declared.points.Point.{Point}
use Rattle.charts.specs.Lines.{decision_path, path_from, goes_on}
use Rattle.charts.specs.Points.{holds_at}

opened : (n i : ℕ) (d : Rule) (rules : List Rule) (p : Point) → i < length rules
    → path_from n (drop i rules) p
    ≡ (if holds_at (get_or rules i d) p then n ∷ goes_on (get_or rules i d).quota (path_from (suc n) (drop (i + 1) rules) p) else path_from (suc n) (drop (i + 1) rules) p)
opened n i d rules p lt =
    ap (λ (rs : List Rule). path_from n rs p) (drop-cons rules i d lt)
    ∙ ap (λ (k : ℕ). if holds_at (get_or rules i d) p then n ∷ goes_on (get_or rules i d).quota (path_from (suc n) (drop k rules) p) else path_from (suc n) (drop k rules) p) (sym (add-one i))

-- if a rule holds alike at both points, and the courses after it are the same, so are those from it on
pub path_more : (n i : ℕ) (d : Rule) (rules : List Rule) (p q : Point) → i < length rules → holds_at (get_or rules i d) p ≡ holds_at (get_or rules i d) q
    → path_from (suc n) (drop (i + 1) rules) p ≡ path_from (suc n) (drop (i + 1) rules) q → path_from n (drop i rules) p ≡ path_from n (drop i rules) q
path_more n i d rules p q lt same rest =
    opened n i d rules p lt
    ∙ kept (holds_at (get_or rules i d) p) (holds_at (get_or rules i d) q) (path_from (suc n) (drop (i + 1) rules) p) (path_from (suc n) (drop (i + 1) rules) q) same rest
    ∙ sym (opened n i d rules q lt)
  where
    kept : (t u : Bool) (a b : List ℕ) → t ≡ u → a ≡ b → (if t then n ∷ goes_on (get_or rules i d).quota a else a) ≡ (if u then n ∷ goes_on (get_or rules i d).quota b else b)
    kept t u a b e f = rw (e, f) refl

-- after a rule without quota that holds at both, nothing is asked
pub path_ends : (n i : ℕ) (d : Rule) (rules : List Rule) (p q : Point) → i < length rules → holds_at (get_or rules i d) p ≡ true → holds_at (get_or rules i d) q ≡ true → (get_or rules i d).quota ≡ None
    → path_from n (drop i rules) p ≡ path_from n (drop i rules) q
path_ends n i d rules p q lt one other none =
    opened n i d rules p lt
    ∙ kept (holds_at (get_or rules i d) p) (holds_at (get_or rules i d) q) (get_or rules i d).quota (path_from (suc n) (drop (i + 1) rules) p) (path_from (suc n) (drop (i + 1) rules) q) one other none
    ∙ sym (opened n i d rules q lt)
  where
    kept : (t u : Bool) (o : Option Quota) (a b : List ℕ) → t ≡ true → u ≡ true → o ≡ None → (if t then n ∷ goes_on o a else a) ≡ (if u then n ∷ goes_on o b else b)
    kept t u o a b e f g = rw (e, f, g) refl

-- a course that is numbered from a later number on does not begin with this one
begins_later : (k n : ℕ) (rules : List Rule) (p : Point) (rest : List ℕ) → n < k → path_from k rules p ≡ n ∷ rest → ⊥
begins_later k n [] p rest lt e =
    let none : 0 ≡ length (n ∷ rest) = ap (λ (ns : List ℕ). length ns) e in
    omega (arith, none)
begins_later k n (rule ∷ rules) p rest lt e =
    step (holds_at rule p) (path_from (suc k) rules p) (begins_later (suc k) n rules p rest (omega (arith, lt))) e
  where
    step : (t : Bool) (a : List ℕ) → (a ≡ n ∷ rest → ⊥) → (if t then k ∷ goes_on rule.quota a else a) ≡ n ∷ rest → ⊥
    step true a later same =
        let first : k ≡ n = ap (λ (ns : List ℕ). get_or ns 0 0) same in
        omega (arith, lt, first)
    step false a later same = later same

-- if a rule holds at only one of two points, the courses from it on differ
pub path_apart : (n i : ℕ) (d : Rule) (rules : List Rule) (p q : Point) → i < length rules
    → (holds_at (get_or rules i d) p ≡ holds_at (get_or rules i d) q → ⊥)
    → path_from n (drop i rules) p ≡ path_from n (drop i rules) q
    → ⊥
path_apart n i d rules p q lt differ same =
    split (holds_at (get_or rules i d) p) (holds_at (get_or rules i d) q) differ (sym (opened n i d rules p lt) ∙ same ∙ opened n i d rules q lt)
  where
    split : (t u : Bool) → (t ≡ u → ⊥)
        → (if t then n ∷ goes_on (get_or rules i d).quota (path_from (suc n) (drop (i + 1) rules) p) else path_from (suc n) (drop (i + 1) rules) p)
        ≡ (if u then n ∷ goes_on (get_or rules i d).quota (path_from (suc n) (drop (i + 1) rules) q) else path_from (suc n) (drop (i + 1) rules) q)
        → ⊥
    split true true apart e = apart refl
    split true false apart e = begins_later (suc n) n (drop (i + 1) rules) q _ (omega arith) (sym e)
    split false true apart e = begins_later (suc n) n (drop (i + 1) rules) p _ (omega arith) e
    split false false apart e = apart refl

-- a rule holds alike at both points, and lets the rules after it be asked. If the courses from it on are the same, so
-- are those after it
pub path_back : (n i : ℕ) (d : Rule) (rules : List Rule) (p q : Point) → i < length rules → holds_at (get_or rules i d) p ≡ holds_at (get_or rules i d) q
    → (holds_at (get_or rules i d) p && is_none (get_or rules i d).quota) ≡ false
    → path_from n (drop i rules) p ≡ path_from n (drop i rules) q
    → path_from (suc n) (drop (i + 1) rules) p ≡ path_from (suc n) (drop (i + 1) rules) q
path_back n i d rules p q lt same on e =
    kept (holds_at (get_or rules i d) p) (holds_at (get_or rules i d) q) (get_or rules i d).quota _ _ same on (sym (opened n i d rules p lt) ∙ e ∙ opened n i d rules q lt)
  where
    kept : (t u : Bool) (o : Option Quota) (a b : List ℕ) → t ≡ u → (t && is_none o) ≡ false → (if t then n ∷ goes_on o a else a) ≡ (if u then n ∷ goes_on o b else b) → a ≡ b
    kept true true None a b f g h = absurd (true≢false g)
    kept true true (Some quota) a b f g h = ap (λ (ns : List ℕ). drop 1 ns) h
    kept true false o a b f g h = absurd (true≢false f)
    kept false true o a b f g h = absurd (true≢false (sym f))
    kept false false o a b f g h = h

-- the courses from a rule on are the same just if the whole courses are
pub record GoOnAlike (rules : List Rule) (number : ℕ) (p q : Point) : Type 0 where
  pub forth : path_from (suc number) (drop number rules) p ≡ path_from (suc number) (drop number rules) q → decision_path rules p ≡ decision_path rules q
  pub back : decision_path rules p ≡ decision_path rules q → path_from (suc number) (drop number rules) p ≡ path_from (suc number) (drop number rules) q

pub alike_first : (rules : List Rule) (p q : Point) → GoOnAlike rules 0 p q
alike_first rules p q = record { forth = λ e. e; back = λ e. e }

pub alike_more : (rules : List Rule) (i : ℕ) (d : Rule) (p q : Point) → i < length rules → GoOnAlike rules i p q
    → holds_at (get_or rules i d) p ≡ holds_at (get_or rules i d) q
    → (holds_at (get_or rules i d) p && is_none (get_or rules i d).quota) ≡ false
    → GoOnAlike rules (i + 1) p q
alike_more rules i d p q lt alike same on = record {
  forth = λ e. alike.forth (path_more (suc i) i d rules p q lt same (subst (λ (n : ℕ). path_from (suc n) (drop (i + 1) rules) p ≡ path_from (suc n) (drop (i + 1) rules) q) (add-one i) e));
  back = λ e. subst (λ (n : ℕ). path_from (suc n) (drop (i + 1) rules) p ≡ path_from (suc n) (drop (i + 1) rules) q) (sym (add-one i)) (path_back (suc i) i d rules p q lt same on (alike.back e));
}

pub alike_ends : (rules : List Rule) (i : ℕ) (d : Rule) (p q : Point) → i < length rules → GoOnAlike rules i p q
    → holds_at (get_or rules i d) p ≡ true → holds_at (get_or rules i d) q ≡ true → (get_or rules i d).quota ≡ None
    → decision_path rules p ≡ decision_path rules q
alike_ends rules i d p q lt alike one other none = alike.forth (path_ends (suc i) i d rules p q lt one other none)

pub alike_last : (rules : List Rule) (i : ℕ) (p q : Point) → drop i rules ≡ [] → GoOnAlike rules i p q → decision_path rules p ≡ decision_path rules q
alike_last rules i p q none alike =
    alike.forth (ap (λ (rs : List Rule). path_from (suc i) rs p) none ∙ sym (ap (λ (rs : List Rule). path_from (suc i) rs q) none))

pub alike_apart : (rules : List Rule) (i : ℕ) (d : Rule) (p q : Point) → i < length rules → GoOnAlike rules i p q
    → (holds_at (get_or rules i d) p ≡ holds_at (get_or rules i d) q → ⊥)
    → decision_path rules p ≡ decision_path rules q
    → ⊥
alike_apart rules i d p q lt alike differ same = path_apart (suc i) i d rules p q lt differ (alike.back same)

-- two answers that are not the same are of two tests that differ
pub reported_apart : (t u x y : Bool) → not (beq t u) ≡ true → t ≡ x → u ≡ y → x ≡ y → ⊥
reported_apart true true x y e f g h = true≢false (sym e)
reported_apart true false x y e f g h = true≢false (f ∙ h ∙ sym g)
reported_apart false true x y e f g h = true≢false (g ∙ sym h ∙ sym f)
reported_apart false false x y e f g h = true≢false (sym e)
