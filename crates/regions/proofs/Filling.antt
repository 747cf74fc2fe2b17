-- Cells that are appended to others.
use Rattle.std.proofs.Common.{◌≡◌, ◌≤◌, ◌<◌, ◌+◌, ◌⊎◌, inl, inr, ◌&&◌, ℕ, Bool, true, false, not, List, [], ◌∷◌, ◌++◌, length, refl, ap, sym, subst, ◌∙◌, arith, append-nil}
use Rattle.std.specs.Prelude.{if◌then◌else◌, OnOk, Result, Ok, Err}
use Rattle.regions.specs.Cells.{AreCellsOf, IsFiledAt, IsFiledIf, IsFilled, IsInOneMore, cells_at}
use Rattle.regions.specs.Points.{HasCommand}
use Rattle.regions.specs.Questions.{IsCutBy, IsSettledBy, IsUnderWay}
use Rattle.regions.specs.Regions.{AreCut, IsBare, IsCommandIn, lies_in, meets}
use Rattle.regions.specs.declared.cutting.Cell.{Cell}
use Rattle.regions.specs.declared.points.Point.{Point}
use Rattle.regions.specs.declared.regions.PointRegion.{PointRegion}
use Rattle.regions.specs.declared.sides.Side.{Side}
use Rattle.regions.proofs.Searching.{answered}

-- no point of a command lies in a bare region
pub bare_filled : (tests : List (Point → Bool)) (holds fails : Point → Type 0) (region : PointRegion) (cells : List Cell) → IsBare region → IsFilled tests holds fails region cells cells
bare_filled tests holds fails region cells bare p has = by_lies (lies_in region p) (bare p has)
  where
    by_lies : (t : Bool) → t ≡ false → IsFiledIf t tests holds fails cells cells p
    by_lies true e = absurd (cc)
    by_lies false e = refl

at_more : (cells : List Cell) (cell : Cell) (p : Point) (t : Bool) → lies_in cell.region p ≡ t → cells_at (cells ++ cell ∷ []) p ≡ cells_at cells p ++ (if t then cell ∷ [] else [])
at_more [] cell p t e = ap (λ (s : Bool). if s then cell ∷ [] else []) e
at_more (c ∷ cells) cell p t e = kept (lies_in c.region p) (at_more cells cell p t e)
  where
    kept : (s : Bool) → cells_at (cells ++ cell ∷ []) p ≡ cells_at cells p ++ (if t then cell ∷ [] else [])
        → (if s then c ∷ cells_at (cells ++ cell ∷ []) p else cells_at (cells ++ cell ∷ []) p) ≡ (if s then c ∷ cells_at cells p else cells_at cells p) ++ (if t then cell ∷ [] else [])
    kept true h = ap (λ (cs : List Cell). c ∷ cs) h
    kept false h = h

-- if all tests have one outcome in the region, and the answer at one of its points is no, it is one cell
pub cell_filled : (tests : List (Point → Bool)) (number : ℕ) (holds fails : Point → Type 0) (cell : Cell) (cells : List Cell) → IsCutBy tests number cell.region → length tests ≤ number → IsCommandIn cell.region cell.point → fails cell.point
    → IsFilled tests holds fails cell.region cells (cells ++ cell ∷ [])
cell_filled tests number holds fails cell cells cut all in_ answer p has = by_lies (lies_in cell.region p) refl
  where
    by_lies : (t : Bool) → lies_in cell.region p ≡ t → IsFiledIf t tests holds fails cells (cells ++ cell ∷ []) p
    by_lies true e = inl (record {
      cell = cell;
      alone = at_more cells cell p true e;
      command = in_.0;
      answer = answer;
      same = λ k d there. cut k d (omega arith) there p cell.point (has, e) in_;
    })
    by_lies false e = at_more cells cell p false e ∙ append-nil (cells_at cells p)

-- and if it is yes, it is none
pub none_filled : (tests : List (Point → Bool)) (number : ℕ) (holds fails : Point → Type 0) (region : PointRegion) (q : Point) (cells : List Cell) → IsSettledBy tests holds → IsCutBy tests number region → length tests ≤ number → IsCommandIn region q → holds q
    → IsFilled tests holds fails region cells cells
none_filled tests number holds fails region q cells settled cut all in_ answer p has = by_lies (lies_in region p) refl
  where
    by_lies : (t : Bool) → lies_in region p ≡ t → IsFiledIf t tests holds fails cells cells p
    by_lies true e = inr (refl, answered tests number region holds q settled cut all in_ answer p has e)
    by_lies false e = refl

moved_before : (tests : List (Point → Bool)) (holds fails : Point → Type 0) (old mid new : List Cell) (p : Point) → cells_at mid p ≡ cells_at old p → IsFiledAt tests holds fails mid new p → IsFiledAt tests holds fails old new p
moved_before tests holds fails old mid new p e (inl h) = inl (record { cell = h.cell; alone = h.alone ∙ ap (λ (cs : List Cell). cs ++ h.cell ∷ []) e; command = h.command; answer = h.answer; same = h.same })
moved_before tests holds fails old mid new p e (inr h) = inr (h.0 ∙ e, h.1)

moved_after : (tests : List (Point → Bool)) (holds fails : Point → Type 0) (old mid new : List Cell) (p : Point) → cells_at new p ≡ cells_at mid p → IsFiledAt tests holds fails old mid p → IsFiledAt tests holds fails old new p
moved_after tests holds fails old mid new p e (inl h) = inl (record { cell = h.cell; alone = e ∙ h.alone; command = h.command; answer = h.answer; same = h.same })
moved_after tests holds fails old mid new p e (inr h) = inr (e ∙ h.0, h.1)

-- a region that is cut is filled by the cells of its parts
pub both_filled : (tests : List (Point → Bool)) (holds fails : Point → Type 0) (region shape : PointRegion) (side : Side) (inside outside : PointRegion) (old mid new : List Cell) → AreCut region shape side inside outside
    → IsFilled tests holds fails outside old mid → IsFilled tests holds fails inside mid new → IsFilled tests holds fails region old new
both_filled tests holds fails region shape side inside outside old mid new cut out in_ p has = by_test (lies_in region p) (meets side shape p) refl refl
  where
    at_out : (t : Bool) → lies_in outside p ≡ t → IsFiledIf t tests holds fails old mid p
    at_out t e = subst (λ (s : Bool). IsFiledIf s tests holds fails old mid p) e (out p has)

    at_in : (t : Bool) → lies_in inside p ≡ t → IsFiledIf t tests holds fails mid new p
    at_in t e = subst (λ (s : Bool). IsFiledIf s tests holds fails mid new p) e (in_ p has)

    by_test : (t s : Bool) → lies_in region p ≡ t → meets side shape p ≡ s → IsFiledIf t tests holds fails old new p
    by_test true true e f = moved_before tests holds fails old mid new p (at_out false (cut.unmet p has ∙ rw (e, f) refl)) (at_in true (cut.met p has ∙ rw (e, f) refl))
    by_test true false e f = moved_after tests holds fails old mid new p (at_in false (cut.met p has ∙ rw (e, f) refl)) (at_out true (cut.unmet p has ∙ rw (e, f) refl))
    by_test false s e f = at_in false (cut.met p has ∙ rw e refl) ∙ at_out false (cut.unmet p has ∙ rw e refl)

-- from no cells on
pub all_filled : (tests : List (Point → Bool)) (holds fails : Point → Type 0) (whole : PointRegion) (cells : List Cell) → ((p : Point) → HasCommand p → lies_in whole p ≡ true) → IsFilled tests holds fails whole [] cells → AreCellsOf tests holds fails cells
all_filled tests holds fails whole cells lies filled p has = subst (λ (t : Bool). IsFiledIf t tests holds fails [] cells p) (lies p has) (filled p has)

pub on_ok : {A E : Type 0} (r : Result A E) (P Q : Type 0) → (P → Q) → OnOk r P → OnOk r Q
on_ok (Ok x) P Q f h = f h
on_ok (Err e) P Q f h = h

-- what is known by itself of a part that the filling of a region has reached
pub record IsFilling (tests : List (Point → Bool)) (holds fails : Point → Type 0) (region : PointRegion) (number : ℕ) (part : PointRegion) (at : ℕ) (shape : PointRegion) (sides : ℕ) (old mid : List Cell) : Type 0 where
  pub sides_left : sides ≤ 8
  pub further : number ≤ at
  pub cut : IsCutBy tests at part
  pub under_way : IsUnderWay tests at shape sides part
  pub back : (new : List Cell) → IsFilled tests holds fails part mid new → IsFilled tests holds fails region old new
