use Rattle.std.proofs.Common.{◌≡◌, rules, None, [], ap, inl, inr}
use Rattle.rmap.specs.Command.{command_of}
use Rattle.rmap.specs.Reply.{reply_of}
use Rattle.bank.specs.Answer.{judged_line}
use Rattle.node_parts.specs.Loaded.{control_in}
use Rattle.node_parts.proofs.Loadings.{ends_loaded, ends_refused}
use Rattle.node_parts.proofs.loads.load.Goals as goal
use Rattle.node_parts.proofs.loads.load.Goals.{in-Ok, in-Err}

pub returns-clause-ended : goal.returns-clause-ended
returns-clause-ended g c = λ b shares.
    let known = g.S.ProgramStore.known c.args.reader.now in
    let seen = g.S.ProgramStore.known c.publish_staged.new.reader in
    let staging = c.args.staging.now in
    let left = c.set_load_result.new.self in
    let old = g.S.ProgramStore.published c.args.store.now in
    let new = g.S.ProgramStore.published c.publish_staged.new.store in
    let judged = c.args.judged in
    let status = c.match-publish_staged.status.0 in
    let bytes = c.end-2.new.reply in
    let loaded = c.match-publish_staged.status.1 in
    let control = c.read-control.result in
    let none : judged_line (command_of judged.packet) judged.verdict ≡ None = search rules in
    let asks : control ≡ control_in judged = search rules in
    let reply : bytes ≡ reply_of (command_of judged.packet) status [] = search rules in
    elim c.match-publish_staged.branch [
      | in-Ok w ↦ ends_loaded b known seen shares staging left old new judged status bytes loaded control w.in-Ok.generation none asks (search rules) (search rules) (search rules) (search rules) reply
      | in-Err w ↦ ends_refused b known seen shares staging left old new judged status bytes loaded control w.in-Err.refusal none asks (search rules) (ap g.S.ProgramStore.known (search rules)) (search rules) (search rules) (search rules) (search rules) reply
    ]

pub returns-clause-noted : goal.returns-clause-noted
returns-clause-noted g c = elim c.match-publish_staged.branch [
  | in-Ok w ↦ inl (search rules)
  | in-Err w ↦ inr (search rules, search rules)
]
