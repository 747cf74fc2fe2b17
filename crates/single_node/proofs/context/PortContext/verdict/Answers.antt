use Rattle.std.proofs.Common.{◌∙◌, List, ◌++◌, ap, ap₂, drop, length, rules}
use Rattle.machine.specs.declared.calls.Call.{Call}
use Rattle.node_parts.specs.Passes.{RunContextValue, context_after}
use Rattle.single_node.proofs.Running.{are_asked, more_asked}
use Rattle.single_node.proofs.context.PortContext.verdict.Goals as goal

pub returns : goal.returns
returns c =
    let run = c.run-verdict.ensures.run in
    let own = c.self.inside in
    let joined = c.joined-self-inside.ensures ∙ ap₂ (λ (before after : List Call). own.asked.calls ++ drop (length before) after) c.log-before.ensures c.log.ensures in
    let asked = more_asked own.port own.windows.windows own.sizes own.asked.calls c.args.cells.now.asked c.run-verdict.new.counters.asked c.joined-self-inside.result.calls run.0 joined run.1 in
    let ran = run.2 in
    record {
      ran = record {
        calls = run.0;
        asked = asked ∙ ap (λ (b : RunContextValue). context_after b run.0) c.self.view_is;
        run = search rules;
      };
      cells = are_asked c.calls_go_on.ensures c.args.cells.now c.run-verdict.new.counters run.0 c.run-verdict.ensures.sizes run.1 c.answer_in_order.ensures c.answer_in_order-2.ensures;
    }
