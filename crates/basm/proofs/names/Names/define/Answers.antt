use Rattle.std.proofs.Common.{refl, sym, ap, ◌∙◌, ℕ, Option}
use Rattle.std.specs.Option.{is_some}
use Rattle.std.proofs.lemmas.Bool.{false≢true}
use Rattle.basm.specs.Names.{slot_named}
use Rattle.basm.proofs.Lookups.{none_from_false, seen_is_some, seen_known, seen_new}
use Rattle.basm.proofs.names.Names.define.Goals as goal
use Rattle.basm.proofs.names.Names.define.Goals.{in-Ok, in-Err}

pub returns-then-contains_key-clause-names : goal.returns-then-contains_key-clause-names
returns-then-contains_key-clause-names c = λ other.
    seen_known c.args.self.now c.self.inside.slots.entries c.args.name.now c.args.slot c.self.view_is (sym c.if-contains_key.ensures) other

pub returns-then-contains_key-clause-is_new : goal.returns-then-contains_key-clause-is_new
returns-then-contains_key-clause-is_new c =
    let known = seen_is_some c.args.self.now c.self.inside.slots.entries c.args.name.now _ c.self.view_is c.if-contains_key.ensures in
    (λ yes. absurd (false≢true yes), λ none. sym (ap (λ (o : Option ℕ). is_some o) none) ∙ known)

pub returns-clause-names : goal.returns-clause-names
returns-clause-names c =
    let unknown = seen_is_some c.args.self.now c.self.inside.slots.entries c.args.name.now _ c.self.view_is c.if-contains_key.ensures in
    elim c.match-insert.branch [
      | in-Ok w ↦ rw w.result-is (λ other. seen_new c.args.self.now c.self.inside.slots c.insert.new.self c.args.name.now c.args.slot c.self.view_is unknown w.in-Ok.ensures.updates other)
      | in-Err w ↦ rw w.result-is tt
    ]

pub returns-clause-is_new : goal.returns-clause-is_new
returns-clause-is_new c =
    let unknown = seen_is_some c.args.self.now c.self.inside.slots.entries c.args.name.now _ c.self.view_is c.if-contains_key.ensures in
    elim c.match-insert.branch [
      | in-Ok w ↦ rw w.result-is (λ yes. none_from_false (slot_named c.args.self.now c.args.name.now) unknown, λ none. refl)
      | in-Err w ↦ rw w.result-is tt
    ]
