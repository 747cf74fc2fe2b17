use Rattle.std.proofs.Common.{ℕ, List, inr, refl, sym, subst}
use Rattle.std.proofs.lemmas.Result.{err_from_is_err_and}
use Rattle.basm.specs.Relation.{IsText}
use Rattle.job_texts.specs.Assembled.{HoldsBadText}
use Rattle.job_texts.proofs.asm.assembled.Goals as goal

pub returns-in_err-assemble-clause-refused : goal.returns-in_err-assemble-clause-refused
returns-in_err-assemble-clause-refused g c =
    let gone = err_from_is_err_and c.from_residual-in_err-assemble.result c.from_residual-in_err-assemble.ensures.1 in
    let bad : HoldsBadText g.F.Files.reads c.args.files.now c.args.name.now c.text_in.new.files c.in_err-assemble.field-0.0 =
    record {
      bytes = _;
      read = c.in_ok-text.ensures.gave;
      utf8 = c.in_ok-text.ensures.utf8;
      bad = λ p text. c.in_err-assemble.ensures.exact p (subst (λ (bytes : List ℕ). IsText bytes p) (sym c.as_str.ensures.value) text);
    } in
    rw (gone.1, gone.2) (inr (c.in_err-assemble.field-0.0, refl, bad))
