use Rattle.std.proofs.Common.{◌≡◌, ◌/◌, ◌%◌, ◌++◌, ◌∷◌, [], ℕ, List, replicate, arith, ap}
use Rattle.std.specs.Prelude.{map}
use Rattle.std.specs.Vec.{vec_items}
use Rattle.std.proofs.Math.Nat.{mod-lt}
use Rattle.std.proofs.lemmas.Nat.{div-add-mod'}
use Rattle.std.proofs.lemmas.List.{map-append}
use Rattle.bank.proofs.Paging.{zeros_are, zeros_join, zeros_are_pushed, zeros_join_pushed}
use Rattle.bank.proofs.pages.zero_pages.Goals as goal

pub returns-then-rest-eq0-clause-pages : goal.returns-then-rest-eq0-clause-pages
returns-then-rest-eq0-clause-pages c =
    zeros_are (map vec_items c.in_ok-pages.pages.items) (c.args.size / 4096) c.in_ok-pages.ensures

pub returns-then-rest-eq0-clause-zeros : goal.returns-then-rest-eq0-clause-zeros
returns-then-rest-eq0-clause-zeros c =
    zeros_join (map vec_items c.in_ok-pages.pages.items) (c.args.size / 4096) c.args.size c.in_ok-pages.ensures (omega (arith, div-add-mod' c.args.size 4096, c.if-rest-eq0.true))

pub returns-clause-pages : goal.returns-clause-pages
returns-clause-pages c =
    let rest = c.args.size % 4096 in
    let all : map vec_items c.push.new.self.items ≡ replicate (c.args.size / 4096) (replicate 4096 0) ++ replicate rest 0 ∷ [] =
    rw (c.in_ok-push.ensures.items, map-append, c.in_ok-pages.ensures) (ap (λ (l : List ℕ). replicate (c.args.size / 4096) (replicate 4096 0) ++ l ∷ []) c.in_ok-last.ensures) in
    zeros_are_pushed (map vec_items c.push.new.self.items) (c.args.size / 4096) rest all (omega (arith, c.if-rest-eq0.false)) (mod-lt c.args.size (omega arith))

pub returns-clause-zeros : goal.returns-clause-zeros
returns-clause-zeros c =
    let rest = c.args.size % 4096 in
    let all : map vec_items c.push.new.self.items ≡ replicate (c.args.size / 4096) (replicate 4096 0) ++ replicate rest 0 ∷ [] =
    rw (c.in_ok-push.ensures.items, map-append, c.in_ok-pages.ensures) (ap (λ (l : List ℕ). replicate (c.args.size / 4096) (replicate 4096 0) ++ l ∷ []) c.in_ok-last.ensures) in
    zeros_join_pushed (map vec_items c.push.new.self.items) (c.args.size / 4096) rest c.args.size all (div-add-mod' c.args.size 4096)
