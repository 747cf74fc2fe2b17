use Rattle.std.proofs.Common.{◌≡◌, ◌<◌, sym, refl, ◌∙◌, ap, subst, List, [], ◌∷◌, ◌++◌, length}
use mathlib.Core.List.{IsPrefix}
use Rattle.annals.specs.declared.deed.HistoryEntry.{HistoryEntry}
use Rattle.annals.specs.Chains.{ChainValue, IsDue, IsLastDeed, IsLastOf, chain_of, link, next_of}
use Rattle.annals.proofs.Turns.{adds_moves, added_same, added_next, added_some}
use Rattle.annals.proofs.chains.Chain.push.Goals as goal

pub compare_exchange-one-requires : goal.compare_exchange-one-requires
compare_exchange-one-requires g c =
    let h = c.self.invariant in
    let offer = c.plain-offer.ensures in
    let book = sym (ap (λ w. w.book) h.word_is) in
    let own : IsPrefix c.self.inside.seen.log c.front.inside.seen.log =
    subst (λ (l : List HistoryEntry). IsPrefix c.self.inside.seen.log l) (sym c.front.view_is) (subst (λ (x : ChainValue). IsPrefix x.log c.args.front.now) (sym c.self.view_is) c.requires.begins) in
    let due : IsDue c.self.inside.word.key (g.D.Announces.deed c.args.reported.now) c.front.inside.seen.log =
    subst (λ (l : List HistoryEntry). IsDue c.self.inside.word.key (g.D.Announces.deed c.args.reported.now) l) (sym c.front.view_is)
    (subst (λ (x : ChainValue). IsDue x.number (g.D.Announces.deed c.args.reported.now) c.args.front.now) (sym c.self.view_is) c.requires.due) in (
      ap (λ w. w.tracked) h.word_is,
      c.front.invariant ∙ book,
      h.book ∙ book,
      offer.0,
      rw (offer.1, offer.3) (adds_moves c.self.inside.word.key c.self.inside.seen.log _ _ c.self.inside.pen.nib h.few own h.some h.right h.key refl refl due),
    )

pub invariant_of-self : goal.invariant_of-self
invariant_of-self g c =
    let h = c.self.invariant in
    let step = c.compare_exchange-one.ensures in
    let key = c.self.inside.word.key in
    let e = c.plain-offer.result.ask in
    let v = c.front.inside.seen.log in
    let w = c.compare_exchange-one.new.seen.log in
    let again = c.again.ensures in
    let chain : e.chain ≡ key = ap (λ (l : HistoryEntry). l.chain) c.plain-offer.ensures.1 in
    let is : next_of (chain_of key c.again.result.log) ≡ e.next = ap (λ s. next_of (chain_of key s.log)) again ∙ added_next key v w e chain step.7 in
    record {
      word_is = h.word_is;
      few = h.few;
      book = c.drawn-fresh.ensures.book ∙ h.seen_is;
      seen_is = ap (λ s. s.book) again ∙ (step.0 ∙ c.front.invariant);
      right = c.drawn-fresh.ensures.right;
      key = sym (is ∙ ap (λ (l : HistoryEntry). l.next) c.plain-offer.ensures.1);
      some = subst (λ (l : List HistoryEntry). 0 < length (chain_of key l)) (sym (ap (λ s. s.log) again)) (added_some key v w e chain step.7);
    }

pub returns-clause-added : goal.returns-clause-added
returns-clause-added g c =
    let step = c.compare_exchange-one.ensures in
    let key = c.self.inside.word.key in
    let own = c.self.inside.seen.log in
    let e = c.plain-offer.result.ask in
    let v = c.front.inside.seen.log in
    let w = c.compare_exchange-one.new.seen.log in
    let before = step.7.before in
    let begins : IsPrefix own v =
    subst (λ (l : List HistoryEntry). IsPrefix c.self.inside.seen.log l) (sym c.front.view_is) (subst (λ (x : ChainValue). IsPrefix x.log c.args.front.now) (sym c.self.view_is) c.requires.begins) in
    let chain : e.chain ≡ key = ap (λ (l : HistoryEntry). l.chain) c.plain-offer.ensures.1 in
    let place : e.place ≡ length (chain_of key own) = ap (λ (l : HistoryEntry). l.place) c.plain-offer.ensures.1 in
    let same : chain_of key before ≡ chain_of key own = added_same key own v w e chain place begins step.7 in
    let deed = g.D.Announces.deed c.args.reported.now in
    let is : e ≡ link key (length (chain_of key before)) deed c.drawn-fresh.result.nib.key =
    c.plain-offer.ensures.1 ∙ ap (λ (l : List HistoryEntry). link key (length l) deed c.drawn-fresh.result.nib.key) (sym same) in
    let last : IsLastDeed key v w deed = record {
      before = before;
      next = c.drawn-fresh.result.nib.key;
      log = step.7.log ∙ ap (λ (l : HistoryEntry). before ++ l ∷ []) is;
      seen = step.7.seen;
    } in
    let all : IsLastOf (record { number = key; log = own }) v w deed = record { last = last; whole = same; asked = step.7.asked } in
    rw (← c.self.view_is, ← c.front.view_is) all
