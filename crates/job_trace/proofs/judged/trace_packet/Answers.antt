use Rattle.std.proofs.Common.{rules, ◌≡◌, ℕ, List, sym, ap, subst}
use Rattle.std.proofs.lemmas.Result.{on_ok_weaker}
use Rattle.job_parts.specs.Replies.{reply_line}
use Rattle.sched.specs.declared.event.Outcome.{Outcome}
use Rattle.sched.specs.declared.event.Outcome.TheVariants.{Answered, Taken}
use Rattle.job_trace.specs.Judged.{IsStopLine}
use Rattle.job_trace.proofs.Histories.{traces_judged, traces_stopped}
use Rattle.job_trace.proofs.judged.trace_packet.Goals as goal

pub returns-in-Ok-Answered : goal.returns-in-Ok-Answered
returns-in-Ok-Answered g c =
    let is : c.in-Ok-Answered.field-0 ≡ Answered c.in-Ok-Answered.field-0-0 c.in-Ok-Answered.reply = search rules in
    let bytes : c.bytes.result.now ≡ c.in-Ok-Answered.reply = search rules in
    let line : IsStopLine c.args.port c.in-Ok-Answered.field-0 (reply_line c.args.port c.bytes.result.now)
    = subst (λ (o : Outcome). IsStopLine c.args.port o (reply_line c.args.port c.bytes.result.now)) (sym is) (ap (λ (reply : List ℕ). reply_line c.args.port reply) bytes) in
    on_ok_weaker c.print_reply.result
    (λ printed. traces_stopped c.args.port c.args.packet c.in-Ok-Answered.field-0 c.args.world.now c.step.new.world _ _ _ line c.in-Ok-Answered.ensures.goes_on printed)
    c.print_reply.ensures

pub returns-in-Ok-Taken : goal.returns-in-Ok-Taken
returns-in-Ok-Taken g c =
    let is : c.in-Ok-Taken.field-0 ≡ Taken c.in-Ok-Taken.field-0-0 = search rules in
    on_ok_weaker c.trace_taken.result
    (λ judged. traces_judged c.args.port c.args.packet c.in-Ok-Taken.field-0-0 c.in-Ok-Taken.field-0 c.args.world.now c.step.new.world c.trace_taken.new.world _ _ is c.in-Ok-Taken.ensures.goes_on judged)
    c.trace_taken.ensures
