use Rattle.std.proofs.Common.{◌≡◌, ℕ, List, [], refl, ap, sym, subst, arith}
use mathlib.Core.List.{IsPrefix}
use Rattle.annals.specs.Chains.{Due, asked_by, asked_in, chain_of, done_for, line_chain_of}
use Rattle.annals.proofs.line.Line.begin.Goals as goal

pub invariant_of-result : goal.invariant_of-result
invariant_of-result g c =
    let chain = c.in_ok-chain.chain in
    let number : chain.number ≡ line_chain_of c.args.port = omega (arith, c.requires.number, c.in_ok-chain.ensures.number) in
    let none : asked_by c.args.port chain.log ≡ [] = subst (λ (n : ℕ). asked_in (chain_of n chain.log) ≡ []) number c.in_ok-chain.ensures.asked in
    record {
      number = number;
      left = subst (λ (ds : List Due). IsPrefix ds (done_for c.args.port c.front-left.result)) (sym none) (done_for c.args.port c.front-left.result, refl);
    }

pub returns-clause-line : goal.returns-clause-line
returns-clause-line g c =
    let chain = c.in_ok-chain.chain in
    let number : chain.number ≡ line_chain_of c.args.port = omega (arith, c.requires.number, c.in_ok-chain.ensures.number) in
    let none : asked_by c.args.port chain.log ≡ [] = subst (λ (n : ℕ). asked_in (chain_of n chain.log) ≡ []) number c.in_ok-chain.ensures.asked in
    ap (λ (ds : List Due). record { port = c.args.port; asked = ds }) none
