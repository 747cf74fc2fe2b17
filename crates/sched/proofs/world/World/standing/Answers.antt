use Rattle.std.proofs.Common.{rules, ◌≡◌, ◌<◌, ◌∙◌, Some, List, length, sym, ap, subst, ℕ}
use Rattle.std.specs.Prelude.{slice_get}
use Rattle.std.proofs.lemmas.Option.{slice_get-get_or}
use Rattle.sched.specs.Worlds.{PortValue, WorldValue}
use Rattle.sched.proofs.Lent.{free_port}
use Rattle.sched.proofs.world.World.standing.Goals as goal

pub returns-in-Some-clause-free : goal.returns-in-Some-clause-free
returns-in-Some-clause-free c =
    let p = c.in-Some.port.now in
    let ports = c.deref.result.now in
    let low : c.from.result < length ports = search rules in
    let read : slice_get ports c.from.result ≡ Some p = slice_get-get_or ports c.from.result p low ∙ ap (λ (q : PortValue). Some q) (sym c.in-Some.ensures.lookup.1) in
    let raw = subst (λ (xs : List PortValue). slice_get xs c.from.result ≡ Some p) c.deref.ensures.value read in
    let there = subst (λ (k : ℕ). slice_get c.self.inside.ports.items k ≡ Some p) c.from.ensures raw in
    let found = subst (λ (w : WorldValue). slice_get w.ports c.args.port ≡ Some p) c.self.view_is there in
    free_port c.args.self.now c.args.port p c.standing.result found c.standing.ensures
