use Rattle.std.proofs.Common.{◌≡◌, Some, sym, subst, ◌∙◌}
use Rattle.machine.specs.Sizes.{IsInside}
use Rattle.sched.specs.Worlds.{WorldValue}
use Rattle.plain_cells.specs.Words.{key_word_at}
use Rattle.sched.specs.contracts.world.World.{the_view}
use Rattle.sched.proofs.Keeping.{word_inside}
use Rattle.sched.proofs.world.World.word.Goals as goal

pub returns-clause-inside : goal.returns-clause-inside
returns-clause-inside c = λ inside.
    let w = the_view c.self.inside in
    let here = subst (λ (v : WorldValue). IsInside v.sizes c.args.map c.args.key) (sym c.self.view_is) inside in
    subst (λ (v : WorldValue). c.get.result ≡ Some (key_word_at v.words c.args.map c.args.key)) c.self.view_is (c.get.ensures ∙ word_inside w.sizes w.words c.args.map c.args.key c.self.invariant.cells here)
