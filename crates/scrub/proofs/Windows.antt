-- The windows of a node in the sum of its sizes.
use Rattle.std.proofs.Common.{◌≡◌, ◌≢◌, ◌<◌, ℕ, List, [], ◌∷◌, length, Some, refl, sym, ap, arith, ◌∙◌}
use Rattle.std.specs.Prelude.{slice_get}
use Rattle.node_parts.specs.Passes.{PassValue}
use Rattle.rmap.specs.Windows.{WindowsValue}
use Rattle.scrub.specs.Damage.{after_places, after_windows}
use Rattle.sums.specs.Sums.{after_word}

-- a node without ports adds nothing
pub without_ports : (sum : ℕ) (passes : List PassValue) → length passes ≡ 0 → sum ≡ after_windows sum (slice_get passes 0)
without_ports sum [] none = refl
without_ports sum (h ∷ hs) none = absurd (omega (arith, none))

-- those of a node with ports are those of its first port
pub of_first : (sum total : ℕ) (w : WindowsValue) (passes : List PassValue) → length passes ≢ 0 → ((k : ℕ) (h : PassValue) → slice_get passes k ≡ Some h → w ≡ h.windows)
    → total ≡ after_places (after_word sum w.node_address) w.banks → total ≡ after_windows sum (slice_get passes 0)
of_first sum total w [] some under is = absurd (some refl)
of_first sum total w (h ∷ hs) some under is = is ∙ ap (λ (x : WindowsValue). after_places (after_word sum x.node_address) x.banks) (under 0 h refl)
