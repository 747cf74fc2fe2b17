use Rattle.std.proofs.Common.{◌≡◌, ℕ, List, [], ◌∷◌, ◌++◌, length, ap, sym, ◌∙◌, subst}
use mathlib.Core.List.{IsPrefix}
use Rattle.annals.specs.declared.deed.Act.{Act}
use Rattle.annals.specs.declared.deed.Deed.{Deed}
use Rattle.annals.specs.declared.deed.Deed.TheVariants.{Does, Asks}
use Rattle.annals.specs.declared.deed.HistoryEntry.{HistoryEntry}
use Rattle.annals.specs.Chains.{ChainValue, Due, IsDue, IsLastOf, IsLineChain, LineValue, asked_by, asked_in, chain_of, done_for, line_chain_of, line_with, link, owner_of}
use Rattle.lemmas.proofs.Prefixes.{prefix_trans}
use Rattle.annals.proofs.Dues.{all_left, asked_more, asks_next, between_same}
use Rattle.annals.proofs.line.Line.leave.Goals as goal

-- what was known begins what was reached with one more
begins_last : (chain : ChainValue) (seen known reached : List HistoryEntry) (deed : Deed) → IsPrefix seen known → IsLastOf chain known reached deed → IsPrefix seen reached
begins_last chain seen known reached deed pre is =
    let before = is.last.before in
    prefix_trans seen known reached pre (prefix_trans known before reached is.last.seen (_, sym is.last.log))

-- what a line asks for is due then
due_then : (port bank : ℕ) (e : Act) (own : ChainValue) (left known reached : List HistoryEntry) → IsLineChain port own left → IsPrefix left known → IsLastOf own known reached (Asks (bank, e))
    → asked_by port reached ≡ done_for port reached ++ (bank, e) ∷ []
due_then port bank e own left known reached is pre asked =
    let before = asked.last.before in
    let same : chain_of (line_chain_of port) before ≡ chain_of (line_chain_of port) own.log = subst (λ (n : ℕ). chain_of n before ≡ chain_of n own.log) is.number asked.whole in
    let place = length (chain_of own.number before) in
    let more : reached ≡ before ++ link (line_chain_of port) place (Asks (bank, e)) asked.last.next ∷ [] =
    asked.last.log ∙ ap (λ (n : ℕ). before ++ link n place (Asks (bank, e)) asked.last.next ∷ []) is.number in
    asks_next port place asked.last.next own.log before left reached (bank, e) asked.asked same is.left (prefix_trans left known before pre asked.last.seen) more

-- and the line asked for it after what it asked for before
asked_then : (port bank : ℕ) (e : Act) (own : ChainValue) (left known reached : List HistoryEntry) → IsLineChain port own left → IsLastOf own known reached (Asks (bank, e))
    → asked_by port reached ≡ asked_by port own.log ++ (bank, e) ∷ []
asked_then port bank e own left known reached is asked =
    let before = asked.last.before in
    let same : chain_of (line_chain_of port) before ≡ chain_of (line_chain_of port) own.log = subst (λ (n : ℕ). chain_of n before ≡ chain_of n own.log) is.number asked.whole in
    let place = length (chain_of own.number before) in
    let more : reached ≡ before ++ link (line_chain_of port) place (Asks (bank, e)) asked.last.next ∷ [] =
    asked.last.log ∙ ap (λ (n : ℕ). before ++ link n place (Asks (bank, e)) asked.last.next ∷ []) is.number in
    ap (asked_by port) more ∙ (asked_more port place asked.last.next before (bank, e) ∙ ap (λ (ls : List HistoryEntry). asked_in ls ++ (bank, e) ∷ []) same)

-- after the bank has it, all that the line asked for was left
left_then : (port bank : ℕ) (e : Act) (chain : ChainValue) (known reached : List HistoryEntry) → owner_of e ≡ port → chain.number ≡ bank → IsPrefix chain.log known
    → asked_by port known ≡ done_for port known ++ (bank, e) ∷ [] → IsLastOf chain known reached (Does e) → IsPrefix (asked_by port known) (done_for port reached)
left_then port bank e chain known reached own is pre due added =
    let before = added.last.before in
    let n = chain.number in
    let here : asked_by port known ≡ done_for port known ++ (n, e) ∷ [] = subst (λ (m : ℕ). asked_by port known ≡ done_for port known ++ (m, e) ∷ []) (sym is) due in
    let whole : chain_of n known ≡ chain_of n before = between_same n chain.log known before pre added.last.seen (sym added.whole) in
    all_left port n (length (chain_of n before)) added.last.next known before reached e own added.asked added.last.seen whole here added.last.log

pub push-requires-clause-begins : goal.push-requires-clause-begins
push-requires-clause-begins g c =
    begins_last c.self.inside.chain c.args.chain.now.log c.learn.new.self c.add.new.front (Asks (c.args.number, (g.A.AnnouncesAct.act c.args.act.now)))
    (prefix_trans c.args.chain.now.log c.announce.new.front c.learn.new.self c.announce.ensures.chain c.learn.ensures.this) c.add.ensures.added

pub push-requires-clause-due : goal.push-requires-clause-due
push-requires-clause-due g c =
    let port = c.self.inside.port in
    let e = (g.A.AnnouncesAct.act c.args.act.now) in
    let front = c.add.new.front in
    let due = due_then port c.args.number e c.self.inside.chain c.self.inside.left c.learn.new.self front c.self.invariant c.learn.ensures.that c.add.ensures.added in
    let own : owner_of e ≡ port = c.requires.own ∙ sym (ap (λ (l : LineValue). l.port) c.self.view_is) in
    subst (λ (n : ℕ). IsDue n (Does e) front) (sym c.requires.chain)
    (subst (λ (p : ℕ). asked_by p front ≡ done_for p front ++ (c.args.number, e) ∷ []) (sym own) due)

pub invariant_of-self : goal.invariant_of-self
invariant_of-self g c =
    let port = c.self.inside.port in
    let e = (g.A.AnnouncesAct.act c.args.act.now) in
    let chain = c.args.chain.now in
    let front = c.add.new.front in
    let due = due_then port c.args.number e c.self.inside.chain c.self.inside.left c.learn.new.self front c.self.invariant c.learn.ensures.that c.add.ensures.added in
    let own : owner_of e ≡ port = c.requires.own ∙ sym (ap (λ (l : LineValue). l.port) c.self.view_is) in
    let begins = begins_last c.self.inside.chain chain.log c.learn.new.self front (Asks (c.args.number, e))
    (prefix_trans chain.log c.announce.new.front c.learn.new.self c.announce.ensures.chain c.learn.ensures.this) c.add.ensures.added in
    let all : IsPrefix (asked_by port front) (done_for port c.push.new.front) = left_then port c.args.number e chain front c.push.new.front own c.requires.chain begins due c.push.ensures.added in
    record {
      number = c.add.ensures.number ∙ c.self.invariant.number;
      left = subst (λ (l : List HistoryEntry). IsPrefix (asked_by port l) (done_for port c.again.result)) (sym c.add.ensures.log)
          (subst (λ (l : List HistoryEntry). IsPrefix (asked_by port front) (done_for port l)) (sym c.again.ensures) all);
    }

pub returns-clause-added : goal.returns-clause-added
returns-clause-added g c =
    let added = c.push.ensures.added in
    let known : IsPrefix c.args.front.now c.add.new.front = begins_last c.self.inside.chain c.args.front.now c.learn.new.self c.add.new.front (Asks (c.args.number, (g.A.AnnouncesAct.act c.args.act.now)))
    (prefix_trans c.args.front.now c.announce.new.front c.learn.new.self c.announce.ensures.front c.learn.ensures.this) c.add.ensures.added in
    record {
      last = record {
        before = added.last.before;
        next = added.last.next;
        log = added.last.log;
        seen = prefix_trans c.args.front.now c.add.new.front added.last.before known added.last.seen;
      };
      whole = added.whole;
      asked = added.asked;
    }

pub returns-clause-asked : goal.returns-clause-asked
returns-clause-asked g c =
    let port = c.self.inside.port in
    let e = (g.A.AnnouncesAct.act c.args.act.now) in
    let asked = asked_then port c.args.number e c.self.inside.chain c.self.inside.left c.learn.new.self c.add.new.front c.self.invariant c.add.ensures.added in
    ap (λ (ds : List Due). record { port = port; asked = ds }) (ap (asked_by port) c.add.ensures.log ∙ asked)
    ∙ ap (λ (l : LineValue). line_with l c.args.number e) c.self.view_is
