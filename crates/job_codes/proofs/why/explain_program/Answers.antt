use Rattle.std.proofs.Common.{◌≡◌, ℕ, List, [], rules, subst, string_bytes}
use Rattle.std.specs.Io.KnownBytes.{Appends}
use Rattle.bpf.specs.Weight.{weight_of, saturated_weight}
use Rattle.job_texts.specs.Needed.{PrintsMaps}
use Rattle.job_texts.specs.VerifyJob.{accepted_line}
use Rattle.job_codes.proofs.why.explain_program.Goals as goal

pub returns-in-Ok : goal.returns-in-Ok
returns-in-Ok g c =
    let program = c.args.image.now in
    let old = g.W.Write.contents c.args.out.now in
    let reported = g.W.Write.contents c.print_accepted.new.out in
    let new = g.W.Write.contents c.print_text.new.out in
    let weight : c.weight.result ≡ saturated_weight (weight_of program) = search rules in
    let budget : c.budget.result ≡ program.budget = search rules in
    let printed : Appends old reported (accepted_line c.weight.result c.budget.result) = c.in_ok-print_accepted-in-Ok.ensures in
    let maps : PrintsMaps [] program reported new = record {
      line = string_bytes c.maps_or_none-maps.result;
      maps = c.maps_or_none-maps.ensures;
      printed = subst (λ (line : List ℕ). Appends reported new line) c.as_str.ensures.value c.in_ok-print_text-in-Ok.ensures;
    } in
    record {
      justified = c.in-Ok.ensures.justified;
      safe = c.in-Ok.ensures.safe;
      reported = reported;
      line = subst (λ (w : ℕ). Appends old reported (accepted_line w program.budget)) weight (subst (λ (b : ℕ). Appends old reported (accepted_line c.weight.result b)) budget printed);
      maps = maps;
    }
