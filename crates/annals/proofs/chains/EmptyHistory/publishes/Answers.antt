use Rattle.std.proofs.Common.{◌≡◌, ℕ, [], subst, arith}
use Rattle.annals.specs.Chains.{chain_of}
use Rattle.annals.specs.Publishes.{publishes_in, publishes_chain}
use Rattle.annals.proofs.chains.EmptyHistory.publishes.Goals as goal

pub returns-clause-none : goal.returns-clause-none
returns-clause-none g c =
    let chain = c.in_ok-chain.chain in
    let number : chain.number ≡ publishes_chain = omega (arith, c.in_ok-chain.ensures.number, c.requires.next) in
    subst (λ (n : ℕ). publishes_in (chain_of n chain.log) ≡ []) number c.in_ok-chain.ensures.publishes
