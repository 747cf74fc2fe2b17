use Rattle.std.proofs.Common.{ℕ, List, string_bytes, subst}
use Rattle.std.proofs.lemmas.Result.{IfOk-weaker}
use Rattle.job_rehearse.specs.TableLoads.{PrintsLoads, lead_plain}
use Rattle.job_rehearse.proofs.Reporting.{doors_of_texts}
use Rattle.job_rehearse.proofs.table_loads.door_lines.Goals as goal

pub returns : goal.returns
returns c =
    let made = c.args.asked.now in
    let plain = string_bytes c.in_ok-plain.plain in
    let own = string_bytes c.in_ok-own.own in
    IfOk-weaker c.doors.result _ _
    (λ text reports. record {
      plain = plain;
      own = own;
      plain_is = c.in_ok-plain.ensures;
      own_is = subst (λ (i : List ℕ). PrintsLoads c.args.ports made i lead_plain own) c.as_slice.ensures.value c.in_ok-own.ensures;
      reports = doors_of_texts c.args.sizes.now c.args.table.now c.args.ports made plain own c.as_str.result.now c.as_str-2.result.now (string_bytes text) c.as_str.ensures.value c.as_str-2.ensures.value reports;
    })
    c.doors.ensures
