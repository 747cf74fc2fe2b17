use Rattle.std.proofs.Common.{rules, ◌≡◌, ◌≢◌, ℕ, ◌≤◌}
use Rattle.std.specs.Prelude.{IsTrue}
use Rattle.bver_form.specs.Lowered.{is_lowered}
use Rattle.bver_pass.specs.Heads.{Falls}
use Rattle.bver_pass.specs.StateTable.{knowledge_in}
use Rattle.bver_pass.proofs.Lowering.{lowered_one}
use Rattle.bver_pass.proofs.body.Body.lower_one.Goals as goal

pub returns-then-falls : goal.returns-then-falls
returns-then-falls c =
    let b = c.args.self.now in
    let head = knowledge_in c.args.table.now b.declared.head in
    let old = c.args.lowered.now in
    let new = c.lower.new.self in
    let falls : Falls b head c.args.edge.now c.args.register = search rules in
    let marked : IsTrue (is_lowered new b.place c.args.register) = search rules in
    let others : (k r : ℕ) → r ≤ 9 → (k ≡ b.place → r ≢ c.args.register) → is_lowered new k r ≡ is_lowered old k r = search rules in
    lowered_one b head c.args.edge.now c.args.register old new falls marked others c.lower.ensures.more c.lower.ensures.settled
