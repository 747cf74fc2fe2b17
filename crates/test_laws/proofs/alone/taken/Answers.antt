use Rattle.std.proofs.lemmas.List.{append-nil}
use Rattle.std.specs.Prelude.{[]}
use Rattle.test_laws.proofs.alone.taken.Goals as goal

pub returns : goal.returns
returns c =
    let second = c.serve-served.ensures.serves in record {
      between = _;
      serves = second;
      taken = λ old left j next status loaded judgement slot.
          c.loads_are_taken.ensures old second.holder second.holder left _ _ j next status _ loaded ([], append-nil second.holder.programs) judgement slot;
    }
