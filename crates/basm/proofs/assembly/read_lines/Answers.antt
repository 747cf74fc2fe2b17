use Rattle.std.proofs.Common.{ℕ, List, length, map, take, sym, subst, arith}
use Rattle.std.proofs.lemmas.Iterator.Consumers.{YieldsList-at, YieldsList-end, YieldsList-from_first, YieldsList-turn}
use Rattle.basm_lex.specs.Lines.{pieces_of}
use Rattle.std.proofs.lemmas.List.{length_push, map_push, take_all}
use Rattle.basm.specs.PartialImage.{ArePartsOf, SayParts}
use Rattle.basm.specs.Names.{slot_named}
use Rattle.basm.specs.Relation.{Item}
use Rattle.basm.proofs.Items.{say_push}
use Rattle.basm.proofs.Rooms.{all_lines, turn_adds, turn_at}
use Rattle.basm.proofs.assembly.read_lines.Goals as goal

pub loop-line-preserved : goal.loop-line-preserved
loop-line-preserved c =
    let names = slot_named c.args.survey.now.names in
    let road = YieldsList-at c.into_iter-line-iterator.ensures.into_iter_gives
    (YieldsList-from_first (λ line. line.now) (λ lines. lines) (pieces_of c.args.text.now) c.pieces_of-line-items.ensures) in
    let turn = YieldsList-turn road c.loop-line.yielded _ c.loop-line.yielded_by _ _ c.in-Some.line c.in-Some.is c.next.ensures.steps in
    let P : List (List ℕ) → Type 0 = λ lines. SayParts names lines c.add_line.new.self in
    record {
      say = subst P (sym (map_push (λ line. line.now) c.loop-line.yielded c.in-Some.line))
          (say_push names (map (λ line. line.now) c.loop-line.yielded) c.in-Some.line.now c.loop-line.parts c.add_line.new.self c.loop-line.invariant.say c.in_default.ensures.adds);
      exact = λ p t surveys.
          let before = c.loop-line.invariant.exact p t surveys in
          let here = turn_at t c.args.survey.now c.loop-line.parts (length c.loop-line.yielded) c.in-Some.line.now surveys before turn.0 turn.1 in
          let adds = c.in_default.ensures.exact _ here.says here.room in
          let Q : ℕ → Type 0 = λ n. ArePartsOf (take n t.items) c.add_line.new.self in
          subst Q (sym (length_push c.loop-line.yielded c.in-Some.line))
          (turn_adds t c.args.survey.now c.loop-line.parts c.add_line.new.self (length c.loop-line.yielded) c.in-Some.line.now here before adds);
    }

pub returns-clause-parts : goal.returns-clause-parts
returns-clause-parts c =
    let all = YieldsList-end (YieldsList-at c.into_iter-line-iterator.ensures.into_iter_gives
    (YieldsList-from_first (λ line. line.now) (λ lines. lines) (pieces_of c.args.text.now) c.pieces_of-line-items.ensures))
    c.loop-line.yielded _ c.loop-line.yielded_by _ _ c.in-None.is c.next.ensures.steps in
    let P : List (List ℕ) → Type 0 = λ lines. SayParts (slot_named c.args.survey.now.names) lines c.loop-line.parts in
    subst P all.0 c.loop-line.invariant.say

pub returns-clause-exact : goal.returns-clause-exact
returns-clause-exact c = λ p t surveys.
    let all = YieldsList-end (YieldsList-at c.into_iter-line-iterator.ensures.into_iter_gives
    (YieldsList-from_first (λ line. line.now) (λ lines. lines) (pieces_of c.args.text.now) c.pieces_of-line-items.ensures))
    c.loop-line.yielded _ c.loop-line.yielded_by _ _ c.in-None.is c.next.ensures.steps in
    let P : List Item → Type 0 = λ items. ArePartsOf items c.loop-line.parts in
    subst P (take_all (length c.loop-line.yielded) t.items (let last = all.1 in omega (arith, all_lines t.names 0 _ t.items t.lines))) (c.loop-line.invariant.exact p t surveys)

pub returns-in-Err-clause-exact : goal.returns-in-Err-clause-exact
returns-in-Err-clause-exact c = λ p t surveys.
    let road = YieldsList-at c.into_iter-line-iterator.ensures.into_iter_gives
    (YieldsList-from_first (λ line. line.now) (λ lines. lines) (pieces_of c.args.text.now) c.pieces_of-line-items.ensures) in
    let turn = YieldsList-turn road c.loop-line.yielded _ c.loop-line.yielded_by _ _ c.in-Some.line c.in-Some.is c.next.ensures.steps in
    let before = c.loop-line.invariant.exact p t surveys in
    let here = turn_at t c.args.survey.now c.loop-line.parts (length c.loop-line.yielded) c.in-Some.line.now surveys before turn.0 turn.1 in
    c.first_fault.ensures (c.in-Err.ensures.exact _ here.says here.room)
