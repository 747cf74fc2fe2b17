use Rattle.std.proofs.Common.{◌≡◌, length, sym, ◌∙◌, true≢false, arith}
use Rattle.std.proofs.lemmas.Bool.Decides.{nat_tests}
use Rattle.std.proofs.lemmas.Result.{IfOk-at_ok}
use Rattle.basm.specs.Names.{slot_named}
use Rattle.basm.proofs.Items.{four_from}
use Rattle.basm.proofs.LoopReadings.{fitting, four_long, loop_read, same_loop}
use Rattle.basm_lex.proofs.Readings.{no_value}
use Rattle.basm.proofs.directives.read_loop.Goals.{in_default-via-then-operands-lt4, in_default-via-else-operands-lt4+else-operands-lt5}
use Rattle.basm.proofs.directives.read_loop.Goals as goal

pub returns-then-fits-clause-writes : goal.returns-then-fits-clause-writes
returns-then-fits-clause-writes c =
    let ends = IfOk-at_ok _ c.in_ok-head.ensures.both.0 c.both-ends.ensures.both in
    let counted = IfOk-at_ok _ c.in_ok-head.ensures.both.1 c.both-counted.ensures.both in
    let head = IfOk-at_ok _ ends.0 c.read_end.ensures.writes in
    let back = IfOk-at_ok _ ends.1 c.read_end-2.ensures.writes in
    let bound = IfOk-at_ok _ counted.0 c.read_short.ensures.writes in
    let register = IfOk-at_ok _ counted.1 c.reg.ensures.writes in
    four_from (λ operand. operand.now) c.args.operands.now _ _ _ _ _ (omega (arith, c.in-len4)) head back bound register

pub returns-in_err-head-clause-exact : goal.returns-in_err-head-clause-exact
returns-in_err-head-clause-exact c = λ l is few w.
    let read = loop_read (λ operand. operand.now) c.args.operands.now _ (slot_named c.args.survey.now.names) l c.read_end.result c.read_end-2.result c.both-ends.result
    c.read_short.result c.reg.result c.both-counted.result c.both.result c.both-ends.ensures.exact c.both-counted.ensures.exact c.both.ensures.exact
    (c.read_end.ensures.exact l.head (omega (arith, is.ordered, is.within))) (c.read_end-2.ensures.exact l.back (omega (arith, is.within)))
    (c.read_short.ensures.exact l.bound (omega (arith, is.high))) (c.reg.ensures.exact l.register) w in
    absurd (no_value c.in_err-head.field-0.0 _ (sym c.in_err-head.was ∙ read))

pub returns-then-fits-clause-exact : goal.returns-then-fits-clause-exact
returns-then-fits-clause-exact c = λ l is few w.
    let read = loop_read (λ operand. operand.now) c.args.operands.now _ (slot_named c.args.survey.now.names) l c.read_end.result c.read_end-2.result c.both-ends.result
    c.read_short.result c.reg.result c.both-counted.result c.both.result c.both-ends.ensures.exact c.both-counted.ensures.exact c.both.ensures.exact
    (c.read_end.ensures.exact l.head (omega (arith, is.ordered, is.within))) (c.read_end-2.ensures.exact l.back (omega (arith, is.within)))
    (c.read_short.ensures.exact l.bound (omega (arith, is.high))) (c.reg.ensures.exact l.register) w in
    let x = c.in_ok-head in same_loop x.head x.back x.bound x.register l (sym x.was ∙ read)

pub returns-else-fits-clause-exact : goal.returns-else-fits-clause-exact
returns-else-fits-clause-exact c = λ l is few w.
    let read = loop_read (λ operand. operand.now) c.args.operands.now _ (slot_named c.args.survey.now.names) l c.read_end.result c.read_end-2.result c.both-ends.result
    c.read_short.result c.reg.result c.both-counted.result c.both.result c.both-ends.ensures.exact c.both-counted.ensures.exact c.both.ensures.exact
    (c.read_end.ensures.exact l.head (omega (arith, is.ordered, is.within))) (c.read_end-2.ensures.exact l.back (omega (arith, is.within)))
    (c.read_short.ensures.exact l.bound (omega (arith, is.high))) (c.reg.ensures.exact l.register) w in
    let x = c.in_ok-head in
    let fits = fitting c.args.survey.now.slots c.most_slots.result x.head x.back x.bound x.register l (sym x.was ∙ read) (c.most_slots.ensures few) is in
    absurd (true≢false (sym (c.fits.ensures.exact.1 fits) ∙ c.if-fits.false))

pub returns-in_default-clause-exact : goal.returns-in_default-clause-exact
returns-in_default-clause-exact c = λ l is few w.
    let four : length c.args.operands.now ≡ 4 = four_long (λ operand. operand.now) c.args.operands.now _ _ _ _ w in
    elim c.in_default.branch [
      | in_default-via-then-operands-lt4 v ↦ absurd (grind (arith, nat_tests, four))
      | in_default-via-else-operands-lt4+else-operands-lt5 v ↦ absurd (grind (arith, nat_tests, four))
    ]
