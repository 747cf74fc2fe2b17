use Rattle.std.proofs.Common.{◌++◌, Some, Ok, lit<}
use Rattle.bpf_parts.specs.Text.{register_text}
use Rattle.std.proofs.lemmas.Str.Pattern.{split_parts}
use Rattle.basm_lex.proofs.MemoryOperandTexts.{place_of}
use Rattle.basm_lex.proofs.MemoryOperandReadings.{at_minus, at_plus, some_sign}
use Rattle.basm_lex.proofs.Readings.{no_value, one_value, read_offset}
use Rattle.basm_lex.proofs.memory_operands.read_memory_operand.Goals as goal

pub returns-in_ok-offset-in-Some-clause-writes : goal.returns-in_ok-offset-in-Some-clause-writes
returns-in_ok-offset-in-Some-clause-writes c =
    let word = c.args.word.now in
    let inner = c.in_ok-inner.inner.now in
    let split = split_parts 43 inner (Some (c.in-Some.base, c.in-Some.digits)) c.in-Some.ensures.cases (lit< tt) in
    place_of word inner c.in-Some.base.now c.in-Some.digits.now 43 c.in_ok-base-in-Some.base c.in_ok-offset-in-Some.offset
    c.in_ok-inner.ensures split.0 c.in_ok-base-in-Some.ensures.writes c.in_ok-offset-in-Some.ensures.writes

pub returns-in_ok-offset-in-None-clause-writes : goal.returns-in_ok-offset-in-None-clause-writes
returns-in_ok-offset-in-None-clause-writes c =
    let word = c.args.word.now in
    let inner = c.in_ok-inner.inner.now in
    let parts = c.in-Some-split_once in
    let split = split_parts 45 inner (Some (parts.base, parts.digits)) parts.ensures.cases (lit< tt) in
    place_of word inner parts.base.now parts.digits.now 45 c.in_ok-base-in-None.base c.in_ok-offset-in-None.offset
    c.in_ok-inner.ensures split.0 c.in_ok-base-in-None.ensures.writes c.in_ok-offset-in-None.ensures.writes

pub returns-in_err-inner-clause-exact : goal.returns-in_err-inner-clause-exact
returns-in_err-inner-clause-exact c = λ place w. absurd (c.in_err-inner.ensures (register_text place.base ++ w.distance) w.word_is)

pub returns-in_err-base-in-Some-clause-exact : goal.returns-in_err-base-in-Some-clause-exact
returns-in_err-base-in-Some-clause-exact c = λ place w.
    let parts = at_plus c.args.word.now c.in_ok-inner.inner.now c.in_ok-inner.ensures (c.in-Some.base, c.in-Some.digits) c.in-Some.ensures.cases place w in
    absurd (no_value c.in_err-base-in-Some.field-0.0 place.base (c.in_err-base-in-Some.ensures.exact place.base (w.is_base, parts.0)))

pub returns-in_err-offset-in-Some-clause-exact : goal.returns-in_err-offset-in-Some-clause-exact
returns-in_err-offset-in-Some-clause-exact c = λ place w.
    let parts = at_plus c.args.word.now c.in_ok-inner.inner.now c.in_ok-inner.ensures (c.in-Some.base, c.in-Some.digits) c.in-Some.ensures.cases place w in
    absurd (no_value c.in_err-offset-in-Some.field-0.0 place.offset (c.in_err-offset-in-Some.ensures.exact place.offset (parts.1, w.fits)))

pub returns-in_ok-offset-in-Some-clause-exact : goal.returns-in_ok-offset-in-Some-clause-exact
returns-in_ok-offset-in-Some-clause-exact c = λ place w.
    let parts = at_plus c.args.word.now c.in_ok-inner.inner.now c.in_ok-inner.ensures (c.in-Some.base, c.in-Some.digits) c.in-Some.ensures.cases place w in
    let base = one_value c.in_ok-base-in-Some.base place.base (c.in_ok-base-in-Some.ensures.exact place.base (w.is_base, parts.0)) in
    let offset = read_offset c.in_ok-offset-in-Some.offset place.offset (c.in_ok-offset-in-Some.ensures.exact place.offset (parts.1, w.fits)) w.fits in
    λ i. Ok (record { base = base i; offset = offset i })

pub returns-in_default-clause-exact : goal.returns-in_default-clause-exact
returns-in_default-clause-exact c = λ place w.
    absurd (some_sign c.args.word.now c.in_ok-inner.inner.now c.in_ok-inner.ensures c.in-None.ensures.cases c.in_default.ensures.cases place w)

pub returns-in_err-base-in-None-clause-exact : goal.returns-in_err-base-in-None-clause-exact
returns-in_err-base-in-None-clause-exact c = λ place w.
    let x = c.in-Some-split_once in
    let parts = at_minus c.args.word.now c.in_ok-inner.inner.now c.in_ok-inner.ensures c.in-None.ensures.cases (x.base, x.digits) x.ensures.cases place w in
    absurd (no_value c.in_err-base-in-None.field-0.0 place.base (c.in_err-base-in-None.ensures.exact place.base (w.is_base, parts.0)))

pub returns-in_err-offset-in-None-clause-exact : goal.returns-in_err-offset-in-None-clause-exact
returns-in_err-offset-in-None-clause-exact c = λ place w.
    let x = c.in-Some-split_once in
    let parts = at_minus c.args.word.now c.in_ok-inner.inner.now c.in_ok-inner.ensures c.in-None.ensures.cases (x.base, x.digits) x.ensures.cases place w in
    absurd (no_value c.in_err-offset-in-None.field-0.0 place.offset (c.in_err-offset-in-None.ensures.exact place.offset (parts.1, w.fits)))

pub returns-in_ok-offset-in-None-clause-exact : goal.returns-in_ok-offset-in-None-clause-exact
returns-in_ok-offset-in-None-clause-exact c = λ place w.
    let x = c.in-Some-split_once in
    let parts = at_minus c.args.word.now c.in_ok-inner.inner.now c.in_ok-inner.ensures c.in-None.ensures.cases (x.base, x.digits) x.ensures.cases place w in
    let base = one_value c.in_ok-base-in-None.base place.base (c.in_ok-base-in-None.ensures.exact place.base (w.is_base, parts.0)) in
    let offset = read_offset c.in_ok-offset-in-None.offset place.offset (c.in_ok-offset-in-None.ensures.exact place.offset (parts.1, w.fits)) w.fits in
    λ i. Ok (record { base = base i; offset = offset i })
