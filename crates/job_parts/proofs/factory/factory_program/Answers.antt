use Rattle.std.proofs.Common.{rules, ◌≡◌, ap, inl, inr, refl}
use Rattle.std.proofs.lemmas.Result.{err_from_is_err_and}
use Rattle.job_parts.specs.Factory.{factory}
use Rattle.job_parts.specs.declared.faults.Fault.TheVariants.{BadImage}
use Rattle.job_parts.proofs.FactoryImage.{memory_alone}
use Rattle.job_parts.proofs.FactoryJustified.{refused_for_memory}
use Rattle.job_parts.proofs.factory.factory_program.Goals as goal

pub returns-in_err-image-clause-refused : goal.returns-in_err-image-clause-refused
returns-in_err-image-clause-refused c =
    let gone = err_from_is_err_and c.from_residual.result c.from_residual.ensures.1 in
    rw (gone.1, gone.2) (inl (ap BadImage (memory_alone _ (rw (c.factory_insns.ensures) at c.in_err-image.ensures.exact))))

pub returns-in_err-verify-clause-refused : goal.returns-in_err-verify-clause-refused
returns-in_err-verify-clause-refused c =
    let gone = err_from_is_err_and c.from_residual-in_err-verify.result c.from_residual-in_err-verify.ensures.1 in
    let made : c.in_ok-image.image ≡ factory = search rules in
    rw (gone.1, gone.2) (inr (c.in_err-verify.field-0.0, refl, refused_for_memory c.args.sizes c.in_ok-image.image c.in_err-verify.field-0.0 made c.in_ok-image.ensures.program c.in_err-verify.ensures.unjustified))
