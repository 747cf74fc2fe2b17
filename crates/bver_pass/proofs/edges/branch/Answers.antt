use Rattle.std.proofs.Common.{rules, ◌+◌, ◌≡◌, Option, subst, ◌∙◌, to_z, of_z, w32}
use Rattle.bpf.specs.Program.{Program}
use Rattle.absdom.specs.State.{StateValue}
use Rattle.absdom.specs.Edges.{edge_state}
use Rattle.bver_form.specs.Jumps.{target}
use Rattle.bver_pass.specs.Justified.{IsCoveredIfAny}
use Rattle.bver_pass.specs.StateTable.{AreEntries, knowledge_beside, knowledge_in}
use Rattle.bver_form.specs.Targets.{IsKept}
use Rattle.bver_pass.specs.Visit.{knowledge_at_target}
use Rattle.bver_pass.proofs.Covering.{AreCovered, any_covered_more, known_covered}
use Rattle.bver_pass.proofs.Carried.{carried_covers}
use Rattle.bver_pass.proofs.Extending.{extended_twice}
use Rattle.bver_pass.proofs.edges.branch.Goals as goal

pub returns-clause-covered : goal.returns-clause-covered
returns-clause-covered c =
    let v = c.args.visit.now in
    let next = v.slot + 1 in
    let mid = c.follow_taken.new.table in
    let new = c.follow_not_taken-runs.new.table in
    let runs = c.follow_not_taken-runs.result in
    let after = c.follow_not_taken-runs.new.state in
    let comparison = c.args.comparison.now in
    let edge : Option StateValue = edge_state c.args.state.now comparison.dst comparison.src c.args.edges.now.taken in
    let program : new.program ≡ v.program = c.follow_not_taken-runs.ensures.extended.program ∙ c.follow_taken.ensures.extended.program ∙ c.requires.table in
    let entries : AreEntries new = c.stands_at_targets.ensures.entries in
    let reaches : AreCovered (knowledge_in new) (knowledge_beside new runs next after) = carried_covers c.order_of_states.ensures.reflexive new runs next after entries (λ on kept. (c.follow_not_taken-runs.ensures.plain on).unkept (subst (λ (p : Program). IsKept p next) program kept)) in
    λ settled.
    let covered : IsCoveredIfAny edge (knowledge_at_target v c.args.distance (knowledge_in mid)) = search rules in
    let more : IsCoveredIfAny edge (knowledge_at_target v c.args.distance (knowledge_in new)) = any_covered_more c.order_of_states.ensures.transitive edge (knowledge_at_target v c.args.distance (knowledge_in mid)) (knowledge_at_target v c.args.distance (knowledge_in new)) covered (known_covered (knowledge_in mid) (knowledge_in new) c.follow_not_taken-runs.ensures.extended.grown (target v.slot c.args.distance)) in
    (any_covered_more c.order_of_states.ensures.transitive edge (knowledge_at_target v c.args.distance (knowledge_in new)) (knowledge_at_target v c.args.distance (knowledge_beside new runs next after)) more (known_covered (knowledge_in new) (knowledge_beside new runs next after) reaches (target v.slot c.args.distance)), c.follow_not_taken-runs.ensures.covered)

pub returns-clause-extended : goal.returns-clause-extended
returns-clause-extended c =
    let v = c.args.visit.now in
    extended_twice c.order_of_states.ensures.transitive (v.slot + 1) c.args.table.now c.follow_taken.new.table c.follow_not_taken-runs.new.table c.follow_taken.ensures.extended c.follow_not_taken-runs.ensures.extended

pub returns-clause-least : goal.returns-clause-least
returns-clause-least c =
    let same : to_z w32 (of_z w32 c.args.distance) ≡ c.args.distance = search rules in
    let first = rw same at c.in_ok-follow_taken.ensures.least in
    λ above grown followed. c.follow_not_taken-runs.ensures.least above (first above grown followed.0) followed.1
