use Rattle.std.proofs.Common.{pos, refl, sym, ap, ◌∙◌, rules}
use Rattle.std.specs.Int.{w32}
use Rattle.std.proofs.lemmas.Int.{to_z-of_z}
use Rattle.bpf_parts.specs.Codes.{address_subtype, address_first, address_second}
use Rattle.basm.proofs.Addresses.{load_address, same_load}
use Rattle.basm.proofs.OperandReadings.{one_value}
use Rattle.basm_lex.proofs.Readings.{no_value}
use Rattle.basm.specs.Relation.{texts}
use Rattle.basm.proofs.instructions.address_load.Goals as goal

pub returns-in-Some-clause-writes : goal.returns-in-Some-clause-writes
returns-in-Some-clause-writes c = λ names slot.
    let found = c.in_ok-subtype in
    let same = c.in-Some.ensures.writes in
    let subtype = same.0 ∙ to_z-of_z w32 found.subtype (search rules) in
    let first = same.1 ∙ to_z-of_z w32 found.first (search rules) in
    let second = same.2 ∙ to_z-of_z w32 found.second (search rules) in
    record {
      name = refl;
      operands = load_address names slot (texts c.args.operands.now) found.dst found.subtype found.first found.second
          c.in-Some.address found.ensures.writes (subtype, first, second);
    }

pub returns-in_err-subtype-clause-exact : goal.returns-in_err-subtype-clause-exact
returns-in_err-subtype-clause-exact c = λ dst address w.
    absurd (no_value c.in_err-subtype.field-0.0 _ (c.in_err-subtype.ensures.exact (pos (address_subtype address)) dst (address_first address) (address_second address) w))

pub returns-in-Some-clause-exact : goal.returns-in-Some-clause-exact
returns-in-Some-clause-exact c = λ dst address w.
    let found = c.in_ok-subtype in
    let subtype = to_z-of_z w32 found.subtype (search rules) in
    let first = to_z-of_z w32 found.first (search rules) in
    let second = to_z-of_z w32 found.second (search rules) in
    let read = c.address_operands.ensures.exact (pos (address_subtype address)) dst (address_first address) (address_second address) w in
    let same = one_value (found.subtype, (found.dst, (found.first, found.second))) (pos (address_subtype address), (dst, (address_first address, address_second address))) (sym found.was ∙ read) in
    let kind = c.address.ensures.exact address (sym (subtype ∙ ap (λ x. x.0) same)) (sym (first ∙ ap (λ x. x.1.1.0) same)) (sym (second ∙ ap (λ x. x.1.1.1) same)) in
    same_load found.dst dst c.in-Some.address address (ap (λ x. x.1.0) same) (sym c.in-Some.is ∙ kind)
