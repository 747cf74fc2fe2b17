use Rattle.std.proofs.Common.{◌≡◌, ◌<◌, ◌+◌, ◌-◌, ◌*◌, ℕ, length, subst, arith}
use Rattle.regions.specs.Questions.{HoldsOn, IsCutTo, IsFound}
use Rattle.regions.proofs.Searching.{answered, apart_cut, begun, last_inside, none_of, on_both, passed_inside, passed_within, step, within_cut}
use Rattle.regions.proofs.questions.+search_from.Goals as goal

pub returns-then-ask : goal.returns-then-ask
returns-then-ask g t c =
    c.cuts.invariant.back (answered (g.Q.PointQuestion.tests c.args.question.now) c.cuts.at c.cuts.part (g.Q.PointQuestion.holds c.args.question.now) c.in-Some.point c.requires.settled c.cuts.invariant.cut c.in_default-shape.ensures c.in-Some.ensures c.if-ask.ensures)

pub cuts-preserved-then-is_within : goal.cuts-preserved-then-is_within
cuts-preserved-then-is_within g t c = record {
  sides_left = c.cuts.invariant.sides_left;
  further = omega (arith, c.cuts.invariant.further);
  cut = within_cut (g.Q.PointQuestion.tests c.args.question.now) c.cuts.at c.cuts.part c.in-Some-shape.next c.in-Some-shape.ensures c.if-is_within.ensures c.cuts.invariant.cut;
  under_way = λ some. absurd (omega (arith, some, c.if-sides-eq0.true));
  back = c.cuts.invariant.back;
}

pub returns-then-passes : goal.returns-then-passes
returns-then-passes g t c =
    c.cuts.invariant.back (passed_within (g.Q.PointQuestion.tests c.args.question.now) c.cuts.at c.cuts.part c.in-Some-shape.next (g.Q.PointQuestion.holds c.args.question.now) c.in-Some-shape.ensures c.if-is_within.ensures c.if-passes.ensures)

pub returns-then-passes-2 : goal.returns-then-passes-2
returns-then-passes-2 g t c =
    let tests = g.Q.PointQuestion.tests c.args.question.now in
    let holds = g.Q.PointQuestion.holds c.args.question.now in
    let found = IsFound (g.Q.PointQuestion.fails c.args.question.now) in
    let is_step = step tests c.cuts.at c.cuts.part c.cuts.cutter c.cuts.sides c.side_of.result c.cut.result.0 c.cut.result.1 (omega (arith, c.if-sides-eq0.false)) c.side_of.ensures c.cuts.invariant.under_way c.cut.ensures c.cuts.invariant.cut in
    let none : c.cuts.sides - 1 ≡ 0 = omega (arith, c.if-sides-eq1.true) in
    let passed = passed_inside tests c.cuts.at c.cuts.cutter c.cut.result.0 holds (subst (λ (n : ℕ). IsCutTo tests c.cuts.at c.cuts.cutter n c.cut.result.0) none is_step.in_to) c.if-passes-2.ensures in
    c.cuts.invariant.back (on_both c.cuts.part c.cuts.cutter c.side_of.result c.cut.result.0 c.cut.result.1 holds c.cut.ensures (none_of c.search_from.result (HoldsOn holds c.cut.result.1) found c.in_default-search_from.is c.search_from.ensures) passed)

pub cuts-preserved-then-not-may_meet : goal.cuts-preserved-then-not-may_meet
cuts-preserved-then-not-may_meet g t c = record {
  sides_left = c.cuts.invariant.sides_left;
  further = omega (arith, c.cuts.invariant.further);
  cut = apart_cut (g.Q.PointQuestion.tests c.args.question.now) c.cuts.at c.cuts.part c.in-Some-shape.next c.in-Some-shape.ensures c.if-not-may_meet.ensures c.cuts.invariant.cut;
  under_way = λ some. absurd (omega (arith, some, c.if-sides-eq0.true));
  back = c.cuts.invariant.back;
}

pub cuts-preserved-then-sides-eq0 : goal.cuts-preserved-then-sides-eq0
cuts-preserved-then-sides-eq0 g t c = record {
  sides_left = omega arith;
  further = c.cuts.invariant.further;
  cut = c.cuts.invariant.cut;
  under_way = begun (g.Q.PointQuestion.tests c.args.question.now) c.cuts.at c.in-Some-shape.next c.cuts.part c.in-Some-shape.ensures;
  back = c.cuts.invariant.back;
}

pub search_from-requires : goal.search_from-requires
search_from-requires g t c κs within =
    let is_step = step (g.Q.PointQuestion.tests c.args.question.now) c.cuts.at c.cuts.part c.cuts.cutter c.cuts.sides c.side_of.result c.cut.result.0 c.cut.result.1 (omega (arith, c.if-sides-eq0.false)) c.side_of.ensures c.cuts.invariant.under_way c.cut.ensures c.cuts.invariant.cut in
    let falls : length (g.Q.PointQuestion.tests c.args.question.now) - (c.cuts.at + 1) < t = omega (arith, c.decreases, c.cuts.invariant.further, is_step.there) in
    (falls, (within, (c.requires.few, (omega arith, (c.requires.settled, (is_step.out_cut, λ some. absurd (omega (arith, some))))))))

pub cuts-preserved-then-sides-eq1 : goal.cuts-preserved-then-sides-eq1
cuts-preserved-then-sides-eq1 g t c =
    let tests = g.Q.PointQuestion.tests c.args.question.now in
    let holds = g.Q.PointQuestion.holds c.args.question.now in
    let found = IsFound (g.Q.PointQuestion.fails c.args.question.now) in
    let is_step = step tests c.cuts.at c.cuts.part c.cuts.cutter c.cuts.sides c.side_of.result c.cut.result.0 c.cut.result.1 (omega (arith, c.if-sides-eq0.false)) c.side_of.ensures c.cuts.invariant.under_way c.cut.ensures c.cuts.invariant.cut in
    let none : c.cuts.sides - 1 ≡ 0 = omega (arith, c.if-sides-eq1.true) in
    record {
      sides_left = omega arith;
      further = omega (arith, c.cuts.invariant.further);
      cut = last_inside tests c.cuts.at c.cuts.cutter c.cut.result.0 (subst (λ (n : ℕ). IsCutTo tests c.cuts.at c.cuts.cutter n c.cut.result.0) none is_step.in_to) is_step.in_cut;
      under_way = λ some. absurd (omega (arith, some));
      back = λ in_. c.cuts.invariant.back (on_both c.cuts.part c.cuts.cutter c.side_of.result c.cut.result.0 c.cut.result.1 holds c.cut.ensures (none_of c.search_from.result (HoldsOn holds c.cut.result.1) found c.in_default-search_from.is c.search_from.ensures) in_);
    }

pub cuts-preserved : goal.cuts-preserved
cuts-preserved g t c =
    let tests = g.Q.PointQuestion.tests c.args.question.now in
    let holds = g.Q.PointQuestion.holds c.args.question.now in
    let found = IsFound (g.Q.PointQuestion.fails c.args.question.now) in
    let is_step = step tests c.cuts.at c.cuts.part c.cuts.cutter c.cuts.sides c.side_of.result c.cut.result.0 c.cut.result.1 (omega (arith, c.if-sides-eq0.false)) c.side_of.ensures c.cuts.invariant.under_way c.cut.ensures c.cuts.invariant.cut in
    record {
      sides_left = omega (arith, c.cuts.invariant.sides_left);
      further = c.cuts.invariant.further;
      cut = is_step.in_cut;
      under_way = λ some. is_step.in_to;
      back = λ in_. c.cuts.invariant.back (on_both c.cuts.part c.cuts.cutter c.side_of.result c.cut.result.0 c.cut.result.1 holds c.cut.ensures (none_of c.search_from.result (HoldsOn holds c.cut.result.1) found c.in_default-search_from.is c.search_from.ensures) in_);
    }
