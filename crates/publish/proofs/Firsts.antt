-- Programs that are published before the first packet, one after the other.
use Rattle.std.proofs.Common.{◌≡◌, ◌<◌, ◌≤◌, ◌+◌, ℕ, List, [], ◌∷◌, ◌++◌, length, take, get_or, refl, sym, ap, ◌∙◌, arith, append_assoc}
use Rattle.std.specs.Prelude.{map}
use Rattle.std.proofs.lemmas.List.{length-append, length-map, map-append, take_more}
use Rattle.annals.specs.Chains.{LineValue}
use Rattle.annals.specs.Publishes.{line_loading}
use Rattle.bver.specs.Justified.{AcceptedValue}
use Rattle.node_programs.specs.Published.{sizes_of}
use Rattle.node_programs.specs.declared.publishes.Publish.{Publish}
use Rattle.publish.specs.Firsts.{first_entry, line_with_firsts}

-- one more
line_more : (line : LineValue) (firsts : List (ℕ × AcceptedValue)) (first : ℕ × AcceptedValue)
    → line_with_firsts line (firsts ++ first ∷ []) ≡ line_loading (line_with_firsts line firsts) (first_entry first)
line_more line [] first = refl
line_more line (next ∷ firsts) first = line_more (line_loading line (first_entry next)) firsts first

module _ (firsts : List (ℕ × AcceptedValue)) (index : ℕ) (first d : ℕ × AcceptedValue) (below : index < length firsts) (is : first ≡ get_or firsts index d) where
  pub next : take (index + 1) firsts ≡ take index firsts ++ first ∷ []
  next = take_more firsts index d below ∙ ap (λ (x : ℕ × AcceptedValue). take index firsts ++ x ∷ []) (sym is)

  -- the publishes up to the next one
  pub publishes_next : (start now after : List Publish) → now ≡ start ++ map first_entry (take index firsts) → after ≡ now ++ first_entry first ∷ []
      → after ≡ start ++ map first_entry (take (index + 1) firsts)
  publishes_next start now after was longer =
      longer ∙ ap (λ (l : List Publish). l ++ first_entry first ∷ []) was
      ∙ append_assoc start (map first_entry (take index firsts)) (first_entry first ∷ [])
      ∙ ap (λ (l : List Publish). start ++ l) (sym (map-append first_entry (take index firsts) (first ∷ [])) ∙ ap (map first_entry) (sym next))

  -- and the line
  pub line_next : (start now after : LineValue) → now ≡ line_with_firsts start (take index firsts) → after ≡ line_loading now (first_entry first)
      → after ≡ line_with_firsts start (take (index + 1) firsts)
  line_next start now after was asked =
      asked ∙ ap (λ (l : LineValue). line_loading l (first_entry first)) was ∙ sym (line_more start (take index firsts) first) ∙ ap (line_with_firsts start) (sym next)

-- the maps stay
pub sizes_stay : (start more : List Publish) → 0 < length start → sizes_of (start ++ more) ≡ sizes_of start
sizes_stay [] more some = absurd (omega (arith, some))
sizes_stay (first ∷ start) more some = refl

-- the port of a line stays
pub line_port : (line : LineValue) (firsts : List (ℕ × AcceptedValue)) → (line_with_firsts line firsts).port ≡ line.port
line_port line [] = refl
line_port line (first ∷ firsts) = line_port (line_loading line (first_entry first)) firsts
