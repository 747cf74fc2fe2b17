use Rattle.std.proofs.Common.{◌≡◌, ℕ, sym, subst}
use Rattle.machine.specs.Sizes.{IsInside, kind_of_map}
use Rattle.machine.specs.declared.kinds.MapKind.TheVariants.{Peak}
use Rattle.cells.specs.Counting.{IsPeak}
use Rattle.cells.specs.Seats.{CellsValue, IsHighest, AreSeatsBack}
use Rattle.cells.proofs.CellsOfWords.{answered_peak}
use Rattle.cells.proofs.Places.{reports_peak_at}
use Rattle.cells.proofs.cells.Cells.highest.Goals as goal

pub load-requires : goal.load-requires
load-requires c =
    let inside = subst (λ (v : CellsValue). IsInside v.sizes c.args.map c.args.key) (sym c.self.view_is) c.requires.inside in
    let kind = subst (λ (v : CellsValue). kind_of_map v.sizes c.args.map ≡ Peak) (sym c.self.view_is) c.requires.kind in
    rw c.deref.ensures (reports_peak_at _ _ _ c.self.inside.rest c.self.invariant c.args.map c.args.key c.word_at-word.result inside c.word_at-word.ensures.word kind c.word_at-word.ensures.inside)

pub returns-clause-calls : goal.returns-clause-calls
returns-clause-calls c =
    let map = c.args.map in
    let key = c.args.key in
    let found = c.load.result in
    let answers = c.self.inside.rest.me.0.answers in
    let inside = subst (λ (v : CellsValue). IsInside v.sizes map key) (sym c.self.view_is) c.requires.inside in
    subst (λ (v : CellsValue). AreSeatsBack v → IsHighest v map key found) c.self.view_is
    (λ all. answered_peak c.self.inside.sizes map key found answers inside c.self.invariant.answers (subst (λ (word : ℕ). IsPeak word found answers) c.word_at-word.ensures.word (c.load.ensures.2.peak all)))
