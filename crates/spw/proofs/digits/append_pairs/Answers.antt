use Rattle.std.proofs.Common.{◌≡◌, ◌<◌, ◌++◌, ℕ, fold, map, subst, ap, ◌∙◌, arith}
use Rattle.std.proofs.lemmas.Bool.{ltb-true, lt-ltb}
use Rattle.std.proofs.lemmas.Grind.{common_steps}
use Rattle.spw.proofs.DigitPairs.{byte_of, with_pair, pairs_at, joined_small, of_joined, bytes_are_written}
use Rattle.spw.proofs.digits.append_pairs.Goals as goal

pub returns-clause-digits : goal.returns-clause-digits
returns-clause-digits c =
    let pairs = pairs_at c.args.pairs.now c.told-pairs in
    let last : c.loop-pair.digits ≡ fold with_pair 0 c.args.pairs.now = grind (arith, common_steps) in (
      λ few. (of_joined 0 c.args.pairs.now pairs (subst (λ (n : ℕ). n < 16) last (ltb-true _ _ few))).1,
      λ all. rw last (lt-ltb _ _ (joined_small 0 c.args.pairs.now pairs (omega arith) all)),
    )

pub returns-clause-bytes : goal.returns-clause-bytes
returns-clause-bytes c =
    let pairs = pairs_at c.args.pairs.now c.told-pairs in
    let last : c.loop-pair.bytes.items ≡ c.args.bytes.now.items ++ map byte_of c.args.pairs.now = grind (arith, common_steps) in
    λ few. last ∙ ap (λ more. c.args.bytes.now.items ++ more) (bytes_are_written c.args.pairs.now pairs ((returns-clause-digits c).0 few))
