use Rattle.std.proofs.Common.{ap, sym}
use denote.Enum.Bare.{same_false}
use Rattle.spw.proofs.DigitBlocks.{for_ok}
use Rattle.basm.specs.contracts.faults.AsmCode.{the_type}
use Rattle.basm.specs.declared.faults.AsmFault.{AsmFault}
use Rattle.commands.proofs.InPlace.{stands_for_table}
use Rattle.commands.proofs.in_place.image_of.Goals as goal

pub returns-in-Err-2 : goal.returns-in-Err-2
returns-in-Err-2 c =
    for_ok c.compiled.result (λ image is. stands_for_table c.args.sizes.now c.args.text.now image (λ p text. same_false the_type _ _ (sym c.if-eq.ensures) (ap (λ (f : AsmFault). f.code) (c.in-Err.ensures.exact p text))) is) c.compiled.ensures
