-- What looking back finds published is what the list of publishes says.
use Rattle.std.proofs.Common.{◌≡◌, ◌+◌, ◌==◌, ℕ, List, [], ◌∷◌, ◌++◌, length, Bool, true, false, cond, Option, Some, None, refl, sym, ap, subst, ◌∙◌, arith}
use Rattle.std.specs.Prelude.{map, option_map, if◌then◌else◌}
use Rattle.std.proofs.lemmas.List.{length-append, length-map}
use Rattle.bpf.specs.Program.{Program}
use Rattle.node_programs.specs.declared.publishes.Publish.{Publish}
use Rattle.node_programs.specs.Laws.{IsSetByNext}
use Rattle.bver.specs.Justified.{AcceptedValue}
use Rattle.node_programs.specs.Published.{judging_from, judging_program}
use Rattle.sched.specs.Agreement.{with_event_published, all_published, slot_and_program, ArePublishesOf, program_and_generation, PublishedAgrees}
use Rattle.sched.specs.History.{History, Start, Then}
use Rattle.sched.specs.Looking.{Node, counted_publish, published_after, published_at, published_after_count, published, publishes}

-- as many as are counted
counts : (n : Node) (h : History) → length (all_published n h) ≡ publishes n h
counts n Start = refl
counts n (Then h event outcome) = by (published_at n h event outcome) (counts n h)
  where
    by : (made : Option (ℕ × Program)) → length (all_published n h) ≡ publishes n h → length (with_event_published made (all_published n h)) ≡ counted_publish made (publishes n h)
    by None before = before
    by (Some next) before = length-append (all_published n h) (next ∷ []) ∙ ap (λ (k : ℕ). k + 1) before

-- a list whose images end with one more
record HasLast {A B : Type 0} (f : A → B) (xs : List A) (ys : List B) (y : B) : Type 0 where
  front : List A
  last : A
  parts : xs ≡ front ++ last ∷ []
  fronts : map f front ≡ ys
  lasts : f last ≡ y

has_last : {A B : Type 0} (f : A → B) (xs : List A) (ys : List B) (y : B) → map f xs ≡ ys ++ y ∷ [] → HasLast f xs ys y
has_last f [] [] y e = absurd cc
has_last f [] (z ∷ ys) y e = absurd cc
has_last f (x ∷ xs) [] y e = record { front = []; last = x; parts = ap (λ l. x ∷ l) (none xs (cc)); fronts = refl; lasts = cc }
  where
    none : (l : List _) → map f l ≡ [] → l ≡ []
    none [] is = refl
    none (z ∷ l) is = absurd cc
has_last f (x ∷ xs) (z ∷ ys) y e =
    let further = has_last f xs ys y cc in
    let head : f x ≡ z = cc in
    record { front = x ∷ further.front; last = further.last; parts = ap (λ l. x ∷ l) further.parts; fronts = head_and head further.fronts; lasts = further.lasts }
  where
    head_and : {B : Type 0} {a b : B} {xs ys : List B} → a ≡ b → xs ≡ ys → a ∷ xs ≡ b ∷ ys
    head_and p q = cc

-- what a longer list says, if the shorter agrees
agrees_longer : IsSetByNext → (n : Node) (h : History) (first : Publish) (front : List Publish) (last : Publish) (made : ℕ × Program) (slot : ℕ) → ArePublishesOf n h (first ∷ front) → slot_and_program last ≡ made
    → option_map program_and_generation (judging_program (first ∷ front) slot) ≡ Some (published n h slot)
    → option_map program_and_generation (judging_program ((first ∷ front) ++ last ∷ []) slot) ≡ Some (published_after_count (Some made) (publishes n h) slot (published n h slot))
agrees_longer law n h first front last made slot is same before =
    ap (option_map program_and_generation) (law (first ∷ front) last.slot last.program slot (omega arith)) ∙ by (last.slot == slot) ∙ ap (λ (x : ℕ × Program). Some (if x.0 == slot then (x.1, publishes n h + 1) else published n h slot)) same
  where
    long : length (first ∷ front) ≡ publishes n h + 1
    long = let count : length front ≡ publishes n h = sym (length-map front slot_and_program) ∙ ap length is.1 ∙ counts n h in omega (arith, count)

    by : (own : Bool) → option_map program_and_generation (cond own (Some (last.program, length (first ∷ front))) (judging_program (first ∷ front) slot)) ≡ Some (if own then (last.program.program, publishes n h + 1) else published n h slot)
    by true = ap (λ (k : ℕ). Some (last.program.program, k)) long
    by false = before

agrees_by : IsSetByNext → (n : Node) (h : History) (first : Publish) (rest : List Publish) (made : Option (ℕ × Program)) (slot : ℕ) → first.program.program ≡ n.factory → map slot_and_program rest ≡ with_event_published made (all_published n h)
    → ((publishes : List Publish) → ArePublishesOf n h publishes → option_map program_and_generation (judging_program publishes slot) ≡ Some (published n h slot))
    → option_map program_and_generation (judging_program (first ∷ rest) slot) ≡ Some (published_after_count made (publishes n h) slot (published n h slot))
agrees_by law n h first rest None slot factory is before = before (first ∷ rest) (factory, is)
agrees_by law n h first rest (Some made) slot factory is before =
    let ends = has_last slot_and_program rest (all_published n h) made is in
    let shorter = before (first ∷ ends.front) (factory, ends.fronts) in
    let longer = agrees_longer law n h first ends.front ends.last made slot (factory, ends.fronts) ends.lasts shorter in
    subst (λ (l : List Publish). option_map program_and_generation (judging_program (first ∷ l) slot) ≡ Some (published_after_count (Some made) (publishes n h) slot (published n h slot))) (sym ends.parts) longer

-- what judges after the factory program is what was published before the first event
starts_from : (rest : List Publish) (count slot : ℕ) (best : AcceptedValue × ℕ)
    → program_and_generation (judging_from best (count + 1) rest slot) ≡ published_after (map slot_and_program rest) count slot (program_and_generation best)
starts_from [] count slot best = refl
starts_from (p ∷ ps) count slot best =
    starts_from ps (count + 1) slot (cond (p.slot == slot) (p.program, count + 1) best)
    ∙ ap (published_after (map slot_and_program ps) (count + 1) slot) (by (p.slot == slot))
  where
    by : (own : Bool) → program_and_generation (cond own (p.program, count + 1) best) ≡ (if own then (p.program.program, count + 1) else program_and_generation best)
    by true = refl
    by false = refl

starts : (n : Node) (first : Publish) (rest : List Publish) (slot : ℕ) → ArePublishesOf n Start (first ∷ rest)
    → option_map program_and_generation (judging_program (first ∷ rest) slot) ≡ Some (published n Start slot)
starts n first rest slot is =
    ap (λ (x : Program × ℕ). Some x) (starts_from rest 0 slot (first.program, 0))
    ∙ ap (λ (l : List (ℕ × Program)). Some (published_after l 0 slot (first.program.program, 0))) is.1
    ∙ ap (λ (p : Program). Some (published_after n.firsts 0 slot (p, 0))) is.0

pub published_agrees : IsSetByNext → PublishedAgrees
published_agrees law n h [] slot is = absurd is
published_agrees law n Start (first ∷ rest) slot is = starts n first rest slot is
published_agrees law n (Then h event outcome) (first ∷ rest) slot is =
    agrees_by law n h first rest (published_at n h event outcome) slot is.0 is.1 (λ all are. published_agrees law n h all slot are)
