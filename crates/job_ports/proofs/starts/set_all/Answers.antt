use Rattle.std.proofs.Common.{◌<◌, ◌∙◌, [], get_or, length, refl, arith, rules}
use Rattle.node_parts.specs.declared.config.BankConfig.{BankConfig}
use Rattle.job_ports.specs.Starts.{SetsFirst}
use Rattle.job_ports.proofs.Starting.{covered_found, fit_count, same_at, sets_more}
use Rattle.job_ports.proofs.starts.set_all.Goals as goal

pub bounds-contents-place : goal.bounds-contents-place
bounds-contents-place g c =
    let below : c.loop-number.number < length c.args.banks.now = search rules in
    omega (arith, below, c.from-place.ensures, fit_count c.args.banks.now c.args.contents.now c.requires.fit)

pub set_first-requires-clause-inside : goal.set_first-requires-clause-inside
set_first-requires-clause-inside g c =
    let banks = c.args.banks.now in let contents = c.args.contents.now in
    let number = c.loop-number.number in let place = c.from-place.result in
    let none : BankConfig = record { base = 0; size = 0; room = 0 } in
    let below : number < length banks = search rules in
    let bytes = c.bytes-bytes.ensures ∙ same_at contents place _ _ [] (omega (arith, below, c.from-place.ensures, fit_count banks contents c.requires.fit)) c.index-contents-place.is in
    covered_found c.loop-number.node banks contents number place none (get_or banks place none) c.bytes-bytes.result.now c.loop-number.invariant.extents c.requires.fit below c.from-place.ensures refl bytes

pub loop-number-preserved : goal.loop-number-preserved
loop-number-preserved g c =
    let banks = c.args.banks.now in let contents = c.args.contents.now in
    let number = c.loop-number.number in let place = c.from-place.result in
    let none : BankConfig = record { base = 0; size = 0; room = 0 } in
    let below : number < length banks = search rules in
    let bytes = c.bytes-bytes.ensures ∙ same_at contents place _ _ [] (omega (arith, below, c.from-place.ensures, fit_count banks contents c.requires.fit)) c.index-contents-place.is in
    let one : SetsFirst number (get_or banks place none).base c.bytes-bytes.result.now c.loop-number.known c.set_first.new.known
    = c.in_ok-set_first.ensures.set in
    record {
      sets = sets_more banks contents number place none c.bytes-bytes.result.now _ _ _ below c.from-place.ensures bytes c.loop-number.invariant.sets one;
      line = c.set_first.ensures.line;
      extents = c.set_first.ensures.extents ∙ c.loop-number.invariant.extents;
    }
