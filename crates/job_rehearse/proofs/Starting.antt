-- Calls of cells that began in some way.
use Rattle.std.proofs.Common.{◌≡◌, ◌++◌, ◌∷◌, [], ℕ, List, map, refl, sym, ap, subst, ◌∙◌}
use Rattle.std.proofs.lemmas.List.{map-append}
use base.Stored.{Gv, gnil, gnum, gcons}
use Rattle.machine.specs.Runs.{call}
use Rattle.machine.specs.Sizes.{Maps, kind_of_map}
use Rattle.machine.specs.declared.calls.Call.{Call}
use Rattle.machine.specs.declared.calls.Question.{Question}
use Rattle.plain_cells.specs.Cells.{PlainCellsValue}
use Rattle.job_rehearse.specs.Starts.{AreAnsweredFrom, AreBegun, asked_so_far, home_of, raised_answer, raised_call}
use Rattle.job_rehearse.specs.declared.starts.LoadCells.{LoadCells}
use Rattle.job_rehearse.specs.declared.starts.Start.{Start}
use Rattle.job_rehearse.specs.declared.starts.Start.TheVariants.{Fresh, Spent}

-- one call more
pub one_more_call : (start : Start) (before after : PlainCellsValue) (q : Question) (own answer : ℕ) → after.sizes ≡ before.sizes → after.asked ≡ before.asked ++ call q own ∷ []
    → answer ≡ raised_answer start (kind_of_map before.sizes q.map) own
    → map (raised_call start after.sizes) after.asked ≡ map (raised_call start before.sizes) before.asked ++ call q answer ∷ []
one_more_call start before after q own answer same more is =
    ap (λ (s : Maps). map (raised_call start s) after.asked) same
    ∙ ap (λ (calls : List Call). map (raised_call start before.sizes) calls) more
    ∙ map-append (raised_call start before.sizes) before.asked (call q own ∷ [])
    ∙ ap (λ (n : ℕ). map (raised_call start before.sizes) before.asked ++ call q n ∷ []) (sym is)

-- ---- names

abbrev IsNil : Gv → Type 0
IsNil gnil = Unit {0}
IsNil (gnum n) = ⊥
IsNil (gcons first rest) = ⊥

-- cells of one name began in one way
pub same_start : (one other : Start) → home_of one ≡ home_of other → one ≡ other
same_start Fresh Fresh is = refl
same_start Fresh Spent is = absurd (subst IsNil is tt)
same_start Spent Fresh is = absurd (subst IsNil (sym is) tt)
same_start Spent Spent is = refl

-- nobody asked cells that are begun
pub unasked : (start : Start) (sizes : Maps) (c : LoadCells) → AreBegun start sizes c → asked_so_far c ≡ []
unasked start sizes c is = ap (λ (calls : List Call). map (raised_call c.start c.cells.sizes) calls) is.unasked

-- so the calls since are those of cells that began so
pub answered_since : (start : Start) (sizes : Maps) (c after : LoadCells) → AreBegun start sizes c → after.cells.sizes ≡ c.cells.sizes → home_of after.start ≡ home_of c.start
    → AreAnsweredFrom after.start after.cells.sizes (asked_so_far after) → AreAnsweredFrom start sizes (asked_so_far after)
answered_since start sizes c after is maps home answered =
    subst (λ (s : Maps). AreAnsweredFrom start s (asked_so_far after)) (maps ∙ is.sizes_are)
    (subst (λ (b : Start). AreAnsweredFrom b after.cells.sizes (asked_so_far after)) (same_start after.start c.start home ∙ is.start_is) answered)
