use Rattle.std.proofs.Common.{◌∙◌, sym, ap, if◌then◌else◌, Bool}
use Rattle.absdom_stack.specs.StackWords.{all_whole, range_in}
use Rattle.absdom_stack.proofs.WordSteps.{each_whole}
use Rattle.absdom_stack.proofs.stack_words.StackWords.get.Goals as goal

pub returns-else-self : goal.returns-else-self
returns-else-self c =
    c.whole.ensures
    ∙ sym (each_whole c.args.word)
    ∙ ap (λ (b : Bool). range_in (if b then c.self.inside.ranges else all_whole) c.args.word) (sym c.if-self.false)
    ∙ ap (λ r. range_in r c.args.word) c.self.view_is
