use Rattle.std.proofs.Common.{◌≡◌, ◌∙◌, ◌++◌, ℕ, List, map, sym, ap, arith}
use Rattle.std.specs.Prelude.{decimal}
use Rattle.std.specs.Char.{to_ascii_lowercase}
use Rattle.std.specs.Result.{result_ok}
use Rattle.std.proofs.lemmas.Fmt.{parse-decimal}
use Rattle.job_codes.proofs.WrittenCodes.{rest_after, written_after}
use Rattle.job_codes.proofs.topics.number_after.Goals as goal

pub returns-in-Some : goal.returns-in-Some
returns-in-Some c = λ n small written.
    let text = c.deref.result.now in
    let word = c.as_str.result.now in
    let lowered : word ≡ map to_ascii_lowercase c.args.word.now = c.as_str.ensures.value ∙ c.in_ok-word.ensures.ok in
    let whole : text ≡ word ++ decimal n =
    c.deref.ensures ∙ c.in_ok-text.ensures.ok ∙ written_after c.args.word.now c.args.text.now n small written
    ∙ ap (λ (front : List ℕ). front ++ decimal n) (sym lowered) in
    let found = c.in-Some.ensures.cases in
    let digits : c.in-Some.digits.now ≡ decimal n = rest_after text word (decimal n) c.in-Some.digits.now found.0 found.2 found.1.1 whole in
    let parsed = parse-decimal 8 n c.in-Some.digits.now c.parse.result (omega (arith, small)) (omega (arith, small)) digits c.parse.ensures.value.0 in
    c.ok.ensures.value ∙ ap result_ok parsed
