use Rattle.std.proofs.Common.{◌≡◌, sym, ◌∙◌, ap, subst, arith, List, length}
use mathlib.Core.List.{IsPrefix}
use Rattle.annals.specs.declared.deed.HistoryEntry.{HistoryEntry}
use Rattle.annals.specs.Chains.{IsChainWhole, chain_of}
use Rattle.lemmas.proofs.Prefixes.{prefix_trans, prefix_whole}
use Rattle.annals.proofs.Dues.{chain_prefix}
use Rattle.annals.proofs.Turns.{looks_moves}
use Rattle.annals.proofs.chains.Chain.begins_with.Goals as goal

pub compare_exchange-one-requires : goal.compare_exchange-one-requires
compare_exchange-one-requires g c =
    let h = c.self.invariant in
    let offer = c.plain-offer.ensures in
    let learnt = c.learn.ensures in
    let again = c.again-seen.ensures in
    let book = sym (ap (λ w. w.book) h.word_is) in
    let own : IsPrefix c.self.inside.seen.log c.learn.new.self.log = subst (λ (l : List HistoryEntry). IsPrefix l c.learn.new.self.log) (ap (λ s. s.log) again) learnt.2 in (
      ap (λ w. w.tracked) h.word_is,
      learnt.0 ∙ (ap (λ s. s.book) again ∙ (h.seen_is ∙ book)),
      h.book ∙ book,
      offer.0 ∙ sym (learnt.1 ∙ ap (λ s. s.names) again),
      rw (offer.3) (looks_moves c.self.inside.word.key c.self.inside.seen.log c.learn.new.self.log c.plain-offer.result.ask c.self.inside.pen.nib h.few own h.some h.right h.key (ap (λ (l : HistoryEntry). l.chain) offer.1) (ap (λ (l : HistoryEntry). l.place) offer.1)),
    )

pub returns-clause-whole : goal.returns-clause-whole
returns-clause-whole g c =
    let key = c.self.inside.word.key in
    let mine = c.self.inside.seen.log in
    let both = c.learn.new.self.log in
    let step = c.compare_exchange-one.ensures in
    let all = c.compare_exchange-one.new.seen.log in
    let e = c.plain-offer.result.ask in
    let own : IsPrefix mine both = subst (λ (l : List HistoryEntry). IsPrefix l both) (ap (λ s. s.log) c.again-seen.ensures) c.learn.ensures.2 in
    let chain : e.chain ≡ key = ap (λ (l : HistoryEntry). l.chain) c.plain-offer.ensures.1 in
    let place : e.place ≡ length (chain_of key mine) = ap (λ (l : HistoryEntry). l.place) c.plain-offer.ensures.1 in
    let size : length (chain_of key all) ≡ length (chain_of key mine) = ap (λ k. length (chain_of k all)) (sym chain) ∙ (step.7.0 ∙ place) in
    let pre = chain_prefix key mine all (prefix_trans mine both all own step.6) in
    let whole : chain_of key mine ≡ chain_of key all = prefix_whole (chain_of key mine) (chain_of key all) pre (omega (arith, size)) in
    let front : IsPrefix c.front.inside.seen.log all = prefix_trans c.front.inside.seen.log both all c.learn.ensures.3 step.6 in
    let is : IsChainWhole (record { number = key; log = mine }) c.front.inside.seen.log = record { log = all; seen = front; whole = sym whole; asked = step.7.2 } in
    rw (← c.self.view_is, ← c.front.view_is) is
