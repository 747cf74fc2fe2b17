use Rattle.std.proofs.Common.{ℕ, List, Option, refl, rules, subst}
use Rattle.std.specs.Io.KnownBytes.{Appends}
use Rattle.std.proofs.lemmas.Result.{err_from_is_err_and}
use Rattle.bver.specs.Justified.{IsJustified}
use Rattle.job_parts.specs.Reading.{HasNoProgram}
use Rattle.job_weigh.specs.Weighed.{time_lines}
use Rattle.job_weigh.proofs.weigh.weigh_file.Goals as goal

pub returns-in_err-program-clause-stops : goal.returns-in_err-program-clause-stops
returns-in_err-program-clause-stops g c =
    let gone = err_from_is_err_and c.from_residual.result c.from_residual.ensures.1 in
    rw (gone.1, gone.2)
    (subst (λ (name : List ℕ). HasNoProgram g.F.Files.reads c.args.files.now name c.args.words.now.sizes c.program_in.new.files c.in_err-program.field-0.0) c.as_str.ensures.value c.in_err-program.ensures.refused)

pub returns-clause-done : goal.returns-clause-done
returns-clause-done g c =
    let program = c.in_ok-program.program.program in
    let sizes = c.args.words.now.sizes in
    let justified : IsJustified program sizes = search rules in
    let reported = g.W.Write.contents c.print_weights.new.out in (
      refl,
      record {
        program = program;
        image = search rules;
        justified = justified;
        safe = search rules;
        costs = c.justified_programs.ensures.costs program sizes justified;
        reported = reported;
        classes = c.in_ok-print_weights.ensures;
        time = subst (λ (most : Option ℕ). Appends reported (g.W.Write.contents c.print_time.new.out) (time_lines most)) c.longest-most.ensures c.in_ok-print_time.ensures;
      },
    )
