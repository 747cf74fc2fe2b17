use Rattle.std.proofs.Common.{◌<◌, arith, rules, sym}
use Rattle.stepper.proofs.LittleEndian.{little_none, little_unset, little_unset_above, little_set, byte_above, rest_small}
use Rattle.stepper.proofs.memory.+little_endian.Goals as goal

pub returns-then-bytes-eq0-clause-value : goal.returns-then-bytes-eq0-clause-value
returns-then-bytes-eq0-clause-value t c = sym (little_none _ _ _ (search rules))

pub returns-in_default-clause-value : goal.returns-in_default-clause-value
returns-in_default-clause-value t c =
    let some : 0 < c.args.bytes = omega arith in
    sym (little_unset _ _ _ some (sym c.in_default.ensures.value))

pub returns-in_default-little_endian-clause-value : goal.returns-in_default-little_endian-clause-value
returns-in_default-little_endian-clause-value t c =
    let some : 0 < c.args.bytes = omega arith in
    sym (little_unset_above _ _ _ some (sym c.in_default-little_endian.ensures.value))

pub overflow_mul-result : goal.overflow_mul-result
overflow_mul-result t c =
    let low = rest_small _ _ c.requires.few c.in-Some-little_endian.ensures.bound in
    omega arith

pub overflow_add-result : goal.overflow_add-result
overflow_add-result t c =
    let low = rest_small _ _ c.requires.few c.in-Some-little_endian.ensures.bound in
    omega (arith, c.in-Some.ensures.bound)

pub returns-clause-value : goal.returns-clause-value
returns-clause-value t c =
    let some : 0 < c.args.bytes = omega arith in
    rw c.from.ensures (sym (little_set _ _ _ _ _ some (sym c.in-Some.ensures.value) (sym c.in-Some-little_endian.ensures.value)))

pub returns-clause-bound : goal.returns-clause-bound
returns-clause-bound t c =
    let some : 0 < c.args.bytes = omega arith in
    rw c.from.ensures (byte_above _ _ _ some c.in-Some.ensures.bound c.in-Some-little_endian.ensures.bound)
