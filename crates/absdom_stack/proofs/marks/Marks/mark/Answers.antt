use Rattle.std.proofs.Common.{◌<◌, ◌∙◌, length, length-set, arith}
use Rattle.std.proofs.lemmas.Nat.{or_lt}
use Rattle.absdom_stack.proofs.MarkBits.{each_after}
use Rattle.absdom_stack.proofs.MarkMasks.{marked_all, marked_next, marked_none}
use Rattle.absdom_stack.proofs.marks.Marks.mark.Goals as goal

pub loop-word-init : goal.loop-word-init
loop-word-init c = record {
  size = c.self.invariant;
  so_far = marked_none c.self.inside.words c.args.first c.args.end;
  near = omega arith;
}

pub loop-word-preserved : goal.loop-word-preserved
loop-word-preserved c =
    let words = c.loop-word.self-inside.words in
    let inside : c.loop-word.word < length words = omega (arith, c.loop-word.invariant.size.count, c.loop-word-test.true, c.requires.inside) in
    record {
      size = record {
        count = length-set _ _ _ ∙ c.loop-word.invariant.size.count;
        each = each_after _ _ _ (or_lt 64 _ _ (c.loop-word.invariant.size.each _) c.bits_in.type_inv) c.loop-word.invariant.size.each;
      };
      so_far = marked_next c.self.inside.words words c.args.first c.args.end c.loop-word.word c.bits_in.result inside c.bits_in.ensures c.loop-word.invariant.so_far;
      near = omega (arith, c.loop-word-test.true);
    }

pub returns : goal.returns
returns c =
    rw (← c.self.view_is)
    (marked_all c.self.inside.words c.loop-word.self-inside.words c.args.first c.args.end c.loop-word.word c.self.invariant.count c.loop-word.invariant.size.count c.requires.order c.requires.inside
    (omega (arith, c.loop-word-test.false)) c.loop-word.invariant.so_far)
