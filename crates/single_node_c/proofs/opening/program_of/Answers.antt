use Rattle.std.proofs.Common.{◌≡◌, refl, rules, subst, sym, Result, Err}
use Rattle.std.specs.Prelude.{MatchResult}
use Rattle.bver.specs.Justified.{AcceptedValue}
use Rattle.single_node_c.specs.declared.unfit.Unfit.{Unfit}
use Rattle.single_node_c.specs.Opening.{IsAccepted, IsImageUnfit, of_program}
use Rattle.single_node_c.proofs.opening.program_of.Goals as goal

pub returns-in_err-image : goal.returns-in_err-image
returns-in_err-image c =
    let reported : c.from_residual.result ≡ Err c.in_err-image.field-0.0 = search rules in
    let maps = c.args.sizes.now in let bytes = c.args.image.now in
    subst (λ (r : Result AcceptedValue Unfit). MatchResult r (IsAccepted maps bytes) (IsImageUnfit maps bytes)) (sym reported)
    (c.in_err-image.ensures.fault maps)

pub returns-in-Err-2 : goal.returns-in-Err-2
returns-in-Err-2 c =
    of_program c.in-Err.refused (record {
      program = c.in_ok-image.image;
      spelled = c.in_ok-image.ensures.image;
      refusal = c.in-Err.ensures.refused;
      unjustified = c.in-Err.ensures.unjustified;
    }) (search rules) refl
