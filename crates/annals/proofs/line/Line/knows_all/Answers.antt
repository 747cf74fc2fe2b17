use Rattle.std.proofs.Common.{◌≡◌, ℕ, List, ap, subst}
use mathlib.Core.List.{IsPrefix}
use Rattle.annals.specs.Chains.{Due, asked_by, asked_in, chain_of, done_for}
use Rattle.lemmas.proofs.Prefixes.{prefix_trans}
use Rattle.annals.specs.Banks.{numbers_at}
use Rattle.annals.proofs.Dues.{done_prefix, done_numbers, numbers_prefix}
use Rattle.annals.proofs.line.Line.knows_all.Goals as goal

pub returns-clause-begins : goal.returns-clause-begins
returns-clause-begins g c =
    let port = c.self.inside.port in
    let own = c.self.inside.chain in
    let is = c.begins_with.ensures.whole in
    let same : asked_by port is.log ≡ asked_by port own.log = subst (λ n. asked_in (chain_of n is.log) ≡ asked_in (chain_of n own.log)) c.self.invariant.number (ap asked_in is.whole) in
    let low : IsPrefix (done_for port c.args.front.now) (asked_by port is.log) =
    prefix_trans (done_for port c.args.front.now) (done_for port is.log) (asked_by port is.log) (done_prefix port c.args.front.now is.log is.seen) (is.asked port) in
    rw (← c.self.view_is) (subst (λ (ds : List Due). IsPrefix (done_for port c.args.front.now) ds) same low)

pub returns-clause-numbers : goal.returns-clause-numbers
returns-clause-numbers g c = λ bank.
    let port = c.args.self.now.port in
    let low = numbers_prefix bank (done_for port c.args.front.now) c.args.self.now.asked (returns-clause-begins g c) in
    subst (λ (l : List ℕ). IsPrefix l (numbers_at bank c.args.self.now.asked)) (done_numbers port bank c.args.front.now) low
