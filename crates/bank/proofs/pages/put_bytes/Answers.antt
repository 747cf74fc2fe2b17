use Rattle.std.proofs.Common.{◌<◌, ◌+◌, ℕ, List, length, get_or, set, take, arith, ap, sym, ◌∙◌}
use Rattle.std.specs.Prelude.{map}
use Rattle.std.specs.List.{concat}
use Rattle.std.specs.Vec.{vec_items}
use Rattle.std.proofs.lemmas.List.{length-take}
use Rattle.bank.proofs.Setting.{overlaid_long, overlaid_more, overlaid_none, overlaid_all}
use Rattle.bank.proofs.pages.put_bytes.Goals as goal

pub overflow_add-offset : goal.overflow_add-offset
overflow_add-offset c = omega (arith, c.requires.inside, c.requires.few, c.loop-i-test.true, c.loop-i.auto.i-end)

pub put_byte-requires-clause-inside : goal.put_byte-requires-clause-inside
put_byte-requires-clause-inside c =
    let old = concat (map vec_items c.args.pages.now.items) in
    let bytes = c.args.bytes.now in
    let below : c.loop-i.i < length bytes = omega (arith, c.loop-i-test.true, c.loop-i.auto.i-end) in
    let few = length-take c.loop-i.i bytes in
    let long = overlaid_long old (take c.loop-i.i bytes) c.args.offset (omega (arith, c.requires.inside)) in
    omega (arith, ap (λ (l : List ℕ). length l) c.loop-i.invariant.1, long, c.requires.inside)

pub loop-i-preserved : goal.loop-i-preserved
loop-i-preserved c =
    let old = concat (map vec_items c.args.pages.now.items) in
    let bytes = c.args.bytes.now in
    let i = c.loop-i.i in
    let below : i < length bytes = omega (arith, c.loop-i-test.true, c.loop-i.auto.i-end) in (
      c.put_byte.ensures.pages,
      c.put_byte.ensures.value
          ∙ ap (λ (l : List ℕ). set l (c.args.offset + i) (get_or bytes i 0)) c.loop-i.invariant.1
          ∙ overlaid_more old bytes c.args.offset i (omega (arith, c.requires.inside)) below,
    )

pub loop-i-init : goal.loop-i-init
loop-i-init c =
    (c.requires.pages, sym (overlaid_none (concat (map vec_items c.args.pages.now.items)) c.args.bytes.now c.args.offset))

pub returns-clause-value : goal.returns-clause-value
returns-clause-value c =
    let old = concat (map vec_items c.args.pages.now.items) in
    c.loop-i.invariant.1 ∙ overlaid_all old c.args.bytes.now c.args.offset c.loop-i.i (omega (arith, c.loop-i-test.false, c.loop-i.auto.i-end))
