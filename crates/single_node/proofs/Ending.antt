-- A judged command at its bank.
use Rattle.std.proofs.Common.{◌≡◌, ◌<◌, ◌∙◌, ◌&&◌, ℕ, List, ap, length, nat_lt, refl, subst, sym, true}
use Rattle.std.proofs.lemmas.Bool.{lt-ltb}
use Rattle.std.proofs.lemmas.List.{length-map}
use Rattle.spw.specs.Cargo.{Cargo}
use Rattle.rmap.specs.declared.places.Place.{Place}
use Rattle.rmap.specs.declared.places.Place.TheVariants.{Bank}
use Rattle.bank.specs.Admission.{IsPlacedBy}
use Rattle.bank.specs.Records.{BankValue, extent_of}
use Rattle.node_parts.specs.Pairs.{IsPaired}
use Rattle.node_parts.specs.Passes.{PassValue}

-- the bank that a command has as its place is there, and the port has its share of it
pub bank_there : (banks : List BankValue) (h : PassValue) (p : Cargo) (place : Place) (k : ℕ) → IsPaired banks h → IsPlacedBy h.windows p place → place ≡ Bank k → (k < length banks) × (k < length h.shares)
bank_there banks h p place k paired placed at =
    let below : k < length h.windows.banks = (placed.inside k at).below in
    let same : length h.windows.banks ≡ length banks = ap length paired.windows ∙ length-map banks extent_of in
    let there : k < length banks = subst (λ (n : ℕ). k < n) same below in
    (there, subst (λ (n : ℕ). k < n) (sym paired.count) there)

-- so it is found by the test for it
pub found_there : (k banks shares : ℕ) → (k < banks) × (k < shares) → (nat_lt k banks && nat_lt k shares) ≡ true
found_there k banks shares there = rw (lt-ltb k banks there.0, lt-ltb k shares there.1) refl
