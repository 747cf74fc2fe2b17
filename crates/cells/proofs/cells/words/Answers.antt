use Rattle.std.proofs.Common.{◌≡◌, ◌+◌, ℕ, length, sum, take, sym, ap, ◌∙◌, subst, refl, arith}
use Rattle.std.specs.Prelude.{All}
use Rattle.std.proofs.lemmas.List.{length-take-le, length-replicate}
use Rattle.std.proofs.lemmas.List.Elements.{All-take, All-replicate}
use Rattle.std.proofs.Math.Seq.{take-length}
use Rattle.cells.proofs.Steps.{opens}
use Rattle.cells.proofs.cells.words.Goals as goal

pub of_words-requires : goal.of_words-requires
of_words-requires c =
    let sizes = c.args.sizes.now in
    let n = c.first_word-count.result in
    let z = c.zeros-zeros.result in
    let all : n ≡ sum sizes.cells = c.first_word-count.ensures.word ∙ ap (λ (k : ℕ). sum (take k sizes.cells)) c.maps.ensures.maps ∙ ap sum (take-length sizes.cells) in
    let size : length z ≡ 257 = ap length c.zeros-zeros.ensures ∙ length-replicate {A = ℕ} 257 0 in
    let long : length (take (n + 1) z) ≡ n + 1 = length-take-le (n + 1) z (let few = c.first_word-count.ensures.few in omega arith) in
    opens sizes (take (n + 1) z) (long ∙ ap (λ (k : ℕ). k + 1) all)
    (All-take (λ x. x ≡ 0) (n + 1) z (subst (All (λ x. x ≡ 0)) (sym c.zeros-zeros.ensures) (All-replicate (λ x. x ≡ 0) 257 0 refl)))
