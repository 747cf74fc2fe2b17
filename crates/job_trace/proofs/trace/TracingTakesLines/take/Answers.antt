use Rattle.std.proofs.Common.{rules, ℕ, List, Some, refl, subst}
use Rattle.std.proofs.lemmas.Result.{err_from_is_err_and}
use Rattle.std.specs.Io.KnownBytes.{Appends}
use Rattle.job_nodes.specs.Feeds.{IsFed}
use Rattle.job_trace.specs.declared.trace.Tracing.{Tracing}
use Rattle.job_trace.proofs.LinesInTurn.{traces_received}
use Rattle.job_trace.proofs.trace.TracingTakesLines.take.Goals as goal

pub returns-in_err-text-clause-stops : goal.returns-in_err-text-clause-stops
returns-in_err-text-clause-stops g c =
    let fed : IsFed c.args.line.now c.args.self.now.feeds c.take_line.new.self (Some (c.in-Some.port, c.in-Some.packet)) = search rules in
    let gone = err_from_is_err_and c.from_residual-in_err-text.result c.from_residual-in_err-text.ensures.1 in
    rw (gone.1, gone.2) (((c.in-Some.port, c.in-Some.packet), fed), refl)

pub returns-clause-taken : goal.returns-clause-taken
returns-clause-taken g c =
    let after : Tracing = record { world = c.packet_text.new.world; feeds = c.take_line.new.self } in
    let fed : IsFed c.args.line.now c.args.self.now.feeds c.take_line.new.self (Some (c.in-Some.port, c.in-Some.packet)) = search rules in
    let printed = subst (λ (text : List ℕ). Appends (g.W.Write.contents c.args.out.now) (g.W.Write.contents c.write_all.new.self) text) c.deref.ensures.value
    c.in_ok-write_all.ensures.bytes in
    traces_received c.args.line.now c.in-Some.port c.in-Some.packet c.args.self.now after c.in_ok-text.text.items _ _ fed c.in_ok-text.ensures printed
