-- What is held after some pieces is their join.
use Rattle.std.proofs.Common.{◌≡◌, ℕ, ◌+◌, ◌≤◌, List, [], ◌∷◌, ◌++◌, length, sym, ap, ◌∙◌, arith, subst}
use Rattle.std.specs.List.{concat}
use Rattle.std.proofs.lemmas.List.{append-nil, append_assoc, length-append}
use Rattle.std.proofs.lemmas.List.Folds.{concat-append}
use Rattle.spw.specs.Feeding.{FedFrom, Fed, PacketIsJoin}

join_from : (held : List ℕ) (pieces : List (List ℕ)) (after : List ℕ) → FedFrom held pieces after → after ≡ held ++ concat pieces
join_from held [] after fed = fed ∙ sym (append-nil held)
join_from held (piece ∷ pieces) after fed =
    join_from (held ++ piece) pieces after fed.1 ∙ append_assoc held piece (concat pieces)

few_from : (held : List ℕ) (pieces : List (List ℕ)) (after : List ℕ) → length held ≤ 4200 → FedFrom held pieces after → length after ≤ 4200
few_from held [] after few fed = subst (λ (xs : List ℕ). length xs ≤ 4200) (sym fed) few
few_from held (piece ∷ pieces) after few fed = few_from (held ++ piece) pieces after (omega (arith, length-append held piece, fed.0)) fed.1

fed_from : (held : List ℕ) (pieces : List (List ℕ)) → length (held ++ concat pieces) ≤ 4200 → FedFrom held pieces (held ++ concat pieces)
fed_from held [] few = append-nil held
fed_from held (piece ∷ pieces) few =
    let same : (held ++ piece) ++ concat pieces ≡ held ++ (piece ++ concat pieces) = append_assoc held piece (concat pieces) in
    let short : length ((held ++ piece) ++ concat pieces) ≤ 4200 = subst (λ (xs : List ℕ). length xs ≤ 4200) (sym same) few in (
      omega (arith, few, length-append held (piece ++ concat pieces), length-append piece (concat pieces)),
      subst (λ (xs : List ℕ). FedFrom (held ++ piece) pieces xs) same (fed_from (held ++ piece) pieces short),
    )

join : (pieces : List (List ℕ)) (held : List ℕ) → Fed pieces held → held ≡ concat pieces
join pieces held fed = join_from [] pieces held fed

few : (pieces : List (List ℕ)) → Fed pieces (concat pieces) → length (concat pieces) ≤ 4200
few pieces fed = few_from [] pieces (concat pieces) (omega arith) fed

with_piece : (pieces : List (List ℕ)) (held piece : List ℕ) → Fed pieces held → length (concat (pieces ++ piece ∷ [])) ≡ length held + length piece
with_piece pieces held piece fed =
    let all : concat (pieces ++ piece ∷ []) ≡ held ++ piece =
    concat-append pieces (piece ∷ []) ∙ ap (λ (xs : List ℕ). xs ++ (piece ++ [])) (sym (join pieces held fed)) ∙ ap (λ (ys : List ℕ). held ++ ys) (append-nil piece) in
    ap (λ (xs : List ℕ). length xs) all ∙ length-append held piece

pub packet_join : PacketIsJoin
packet_join = record {
  join = join;
  taken = λ pieces. (few pieces, fed_from [] pieces);
  same = λ pieces others held same fed.
      let all = join pieces held fed ∙ same in
      let first : Fed pieces (concat pieces) = subst (λ (xs : List ℕ). Fed pieces xs) (join pieces held fed) fed in
      let short : length (concat others) ≤ 4200 = subst (λ (xs : List ℕ). length xs ≤ 4200) same (few pieces first) in
      subst (λ (xs : List ℕ). Fed others xs) (sym all) (fed_from [] others short);
  refused = λ pieces held piece fed.
      let same = with_piece pieces held piece fed in
      (λ long. omega (arith, same, long), λ long. omega (arith, same, long));
}
