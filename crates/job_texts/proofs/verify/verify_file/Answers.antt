use Rattle.std.proofs.Common.{◌≡◌, ℕ, refl, rules, subst}
use Rattle.std.specs.Io.KnownBytes.{Appends}
use Rattle.bpf.specs.Weight.{weight_of, saturated_weight}
use Rattle.job_texts.specs.VerifyJob.{accepted_line}
use Rattle.job_texts.proofs.verify.verify_file.Goals as goal

pub returns-clause-done : goal.returns-clause-done
returns-clause-done g c =
    let program = c.in_ok-program.program.program in
    let old = g.W.Write.contents c.args.out.now in
    let new = g.W.Write.contents c.print_accepted.new.out in
    let weight : c.weight.result ≡ saturated_weight (weight_of program) = search rules in
    let budget : c.budget.result ≡ program.budget = search rules in
    let printed : Appends old new (accepted_line c.weight.result c.budget.result) = c.in_ok-print_accepted.ensures in (
      refl,
      record {
        program = program;
        image = search rules;
        justified = search rules;
        safe = search rules;
        line = subst (λ (w : ℕ). Appends old new (accepted_line w program.budget)) weight (subst (λ (b : ℕ). Appends old new (accepted_line c.weight.result b)) budget printed);
      },
    )
