-- The maps of a node after a load, and the line of the port that loaded.
use Rattle.std.proofs.Common.{◌≡◌, ◌<◌, ℕ, List, [], ◌∷◌, ◌++◌, length, map, Option, None, Some, ap, subst, sym, ◌∙◌, arith, inl, inr}
use mathlib.Core.List.{IsPrefix}
use Rattle.rmap.specs.declared.status.Status.{Status}
use Rattle.bank.specs.Records.{JudgedValue}
use Rattle.node_programs.specs.declared.publishes.Publish.{Publish}
use Rattle.node_programs.specs.Published.{sizes_of}
use Rattle.node_parts.specs.Loaded.{EndsAs}
use Rattle.node_parts.specs.Passes.{PassValue}
use Rattle.annals.specs.declared.deed.Act.TheVariants.{Publishes}
use Rattle.annals.specs.Chains.{LineValue}
use Rattle.annals.specs.Publishes.{LoadsAreNoEntries, line_loading, publishes_chain}
use Rattle.bank.specs.Records.{EntryValue, ShareValue}
use Rattle.target.specs.Lines.{IsLineOf}

-- a list that begins with another has its maps
sizes_grow : (xs ys : List Publish) → 0 < length xs → IsPrefix xs ys → sizes_of ys ≡ sizes_of xs
sizes_grow [] ys some pre = absurd (omega arith)
sizes_grow (x ∷ xs) ys some pre = ap sizes_of (sym pre.1)

-- the programs that a port knows after a load are for the maps of those that it knew
pub sizes_kept : (line : Option Status) (h after : PassValue) (old new : List Publish) (j : JudgedValue) (status : Status) → 0 < length h.programs → EndsAs line h after old new j status → sizes_of after.programs ≡ sizes_of h.programs
sizes_kept (Some s) h after old new j status some end = ap (λ (x : PassValue). sizes_of x.programs) end.1
sizes_kept None h after old new j status some end = elim end [
  | inl loaded ↦ sizes_grow h.programs after.programs some loaded.published.keeps
  | inr refused ↦ ap (λ (x : PassValue). sizes_of x.programs) refused.holder_after
]

-- a line that asked for a publish goes on with the shares of its port
pub line_longer : LoadsAreNoEntries → (port : ℕ) (shares : List ShareValue) (line after : LineValue) (publish : Publish) → IsLineOf port shares line → after ≡ line_loading line publish → IsLineOf port shares after
line_longer apart port shares line after publish is noted = subst (λ (l : LineValue). IsLineOf port shares l) (sym noted) (record {
  line_is = is.line_is;
  ports = is.ports;
  counts = λ k below. ap (map (λ (e : EntryValue). e.number)) (apart k line publish) ∙ is.counts k below;
})

-- and it asked for that publish as the port's
pub asked_longer : (port : ℕ) (shares : List ShareValue) (line after : LineValue) (publish : Publish) → IsLineOf port shares line → after ≡ line_loading line publish
    → after.asked ≡ line.asked ++ (publishes_chain, Publishes (port, publish)) ∷ []
asked_longer port shares line after publish is noted =
    ap (λ (l : LineValue). l.asked) noted ∙ ap (λ (n : ℕ). line.asked ++ (publishes_chain, Publishes (n, publish)) ∷ []) is.line_is
