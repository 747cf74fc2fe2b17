use Rattle.std.proofs.Common.{◌≡◌, ◌<◌, ◌==◌, ℕ, sym, refl, ◌∙◌, ap, subst, arith, [], MatchBool}
use Rattle.std.proofs.lemmas.Bool.Decides.{nat_tests}
use Rattle.annals.specs.declared.deed.HistoryEntry.{HistoryEntry}
use Rattle.annals.specs.Banks.{after_deed, zeros, with_entry}
use Rattle.annals.specs.Chains.{IsFirstOfChain, with_asked}
use Rattle.annals.proofs.Turns.{begins_moves, added_next, added_some, known_word, first_memory, first_entries, first_asked}
use Rattle.annals.specs.Publishes.{with_publish}
use Rattle.annals.proofs.Publishings.{first_publishes}
use Rattle.annals.proofs.chains.EmptyHistory.chain.Goals as goal

pub compare_exchange-found-requires : goal.compare_exchange-found-requires
compare_exchange-found-requires g c =
    let word = c.tracked-head.ensures.0 in
    let take = c.take-pen.ensures.pen in
    let seen = ap (λ s. s.book) c.again-seen.ensures in
    let offer = c.plain-offer.ensures in
    let none = c.no_pen-none.ensures in
    let of_pen : c.tracked-head.result.book ≡ c.self.inside.pens.book = ap (λ w. w.book) word ∙ take.0 in
    let key : c.tracked-head.result.key ≡ c.self.inside.pens.next = ap (λ w. w.key) word ∙ ap (λ n. n.key) take.1 in
    let few : c.tracked-head.result.key < 42 = omega (arith, key, c.self.invariant.1, c.requires.left, ap (λ v. v.1) c.self.view_is) in
    let book = seen ∙ (sym c.self.invariant.0 ∙ sym of_pen) in (
      ap (λ w. w.tracked) word,
      book,
      none.0 ∙ book,
      offer.0,
      rw (none.1, offer.1, offer.3) (begins_moves c.tracked-head.result.key c.again-seen.result.log _ few refl refl (λ port. refl) refl),
    )

pub invariant_of-result : goal.invariant_of-result
invariant_of-result g c =
    let word = c.tracked-head.ensures.0 in
    let take = c.take-pen.ensures.pen in
    let seen = ap (λ s. s.book) c.again-seen.ensures in
    let key : c.tracked-head.result.key ≡ c.self.inside.pens.next = ap (λ w. w.key) word ∙ ap (λ n. n.key) take.1 in
    let few : c.tracked-head.result.key < 42 = omega (arith, key, c.self.invariant.1, c.requires.left, ap (λ v. v.1) c.self.view_is) in
    let home : c.self.inside.seen.book ≡ g.J.Family.book = ap (λ v. v.0) c.self.view_is ∙ c.requires.family in
    let of_pen : c.tracked-head.result.book ≡ g.J.Family.book = ap (λ w. w.book) word ∙ (take.0 ∙ (c.self.invariant.0 ∙ home)) in
    let step = c.compare_exchange-found.ensures in
    let found : c.compare_exchange-found.result ≡ 0 = grind (arith, nat_tests, c.if-found-ne0.false) in
    let e = c.plain-offer.result.ask in
    let v = c.again-seen.result.log in
    let w = c.compare_exchange-found.new.seen.log in
    let n = c.tracked-head.result.key in
    let chain : e.chain ≡ n = ap (λ (l : HistoryEntry). l.chain) c.plain-offer.ensures.1 in
    let first : IsFirstOfChain v w e = subst (λ (f : ℕ). MatchBool (f == 0) (IsFirstOfChain v w e) (Unit {0})) found step.7 in
    let added = first.added in
    record {
      word_is = known_word c.tracked-head.result g.J.Family.book (ap (λ w. w.tracked) word) of_pen;
      few = few;
      book = c.drawn-fresh.ensures.book ∙ (seen ∙ home);
      seen_is = step.0 ∙ (seen ∙ home);
      right = c.drawn-fresh.ensures.right;
      key = sym (added_next n v w e chain added ∙ ap (λ (l : HistoryEntry). l.next) c.plain-offer.ensures.1);
      some = added_some n v w e chain added;
    }

pub returns-clause-memory : goal.returns-clause-memory
returns-clause-memory g c =
    let step = c.compare_exchange-found.ensures in
    let found : c.compare_exchange-found.result ≡ 0 = grind (arith, nat_tests, c.if-found-ne0.false) in
    let e = c.plain-offer.result.ask in
    let v = c.again-seen.result.log in
    let w = c.compare_exchange-found.new.seen.log in
    let n = c.tracked-head.result.key in
    let chain : e.chain ≡ n = ap (λ (l : HistoryEntry). l.chain) c.plain-offer.ensures.1 in
    let first : IsFirstOfChain v w e = subst (λ (f : ℕ). MatchBool (f == 0) (IsFirstOfChain v w e) (Unit {0})) found step.7 in
    first_memory n v w e chain first ∙ ap (λ (l : HistoryEntry). after_deed (zeros (0, 0)) l.deed) c.plain-offer.ensures.1

pub returns-clause-entries : goal.returns-clause-entries
returns-clause-entries g c =
    let step = c.compare_exchange-found.ensures in
    let found : c.compare_exchange-found.result ≡ 0 = grind (arith, nat_tests, c.if-found-ne0.false) in
    let e = c.plain-offer.result.ask in
    let v = c.again-seen.result.log in
    let w = c.compare_exchange-found.new.seen.log in
    let n = c.tracked-head.result.key in
    let chain : e.chain ≡ n = ap (λ (l : HistoryEntry). l.chain) c.plain-offer.ensures.1 in
    let first : IsFirstOfChain v w e = subst (λ (f : ℕ). MatchBool (f == 0) (IsFirstOfChain v w e) (Unit {0})) found step.7 in
    first_entries n v w e chain first ∙ ap (λ (l : HistoryEntry). with_entry l.deed []) c.plain-offer.ensures.1

pub returns-clause-asked : goal.returns-clause-asked
returns-clause-asked g c =
    let step = c.compare_exchange-found.ensures in
    let found : c.compare_exchange-found.result ≡ 0 = grind (arith, nat_tests, c.if-found-ne0.false) in
    let e = c.plain-offer.result.ask in
    let v = c.again-seen.result.log in
    let w = c.compare_exchange-found.new.seen.log in
    let n = c.tracked-head.result.key in
    let chain : e.chain ≡ n = ap (λ (l : HistoryEntry). l.chain) c.plain-offer.ensures.1 in
    let first : IsFirstOfChain v w e = subst (λ (f : ℕ). MatchBool (f == 0) (IsFirstOfChain v w e) (Unit {0})) found step.7 in
    first_asked n v w e chain first ∙ ap (λ (l : HistoryEntry). with_asked l.deed []) c.plain-offer.ensures.1

pub returns-clause-publishes : goal.returns-clause-publishes
returns-clause-publishes g c =
    let step = c.compare_exchange-found.ensures in
    let found : c.compare_exchange-found.result ≡ 0 = grind (arith, nat_tests, c.if-found-ne0.false) in
    let e = c.plain-offer.result.ask in
    let v = c.again-seen.result.log in
    let w = c.compare_exchange-found.new.seen.log in
    let n = c.tracked-head.result.key in
    let chain : e.chain ≡ n = ap (λ (l : HistoryEntry). l.chain) c.plain-offer.ensures.1 in
    let first : IsFirstOfChain v w e = subst (λ (f : ℕ). MatchBool (f == 0) (IsFirstOfChain v w e) (Unit {0})) found step.7 in
    first_publishes n v w e chain first ∙ ap (λ (l : HistoryEntry). with_publish l.deed []) c.plain-offer.ensures.1
