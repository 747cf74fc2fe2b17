use Rattle.lemmas.proofs.Prefixes.{prefix_trans}
use Rattle.annals.proofs.chains.Chain.add.Goals as goal

pub returns-clause-added : goal.returns-clause-added
returns-clause-added g c =
    let added = c.push.ensures.added in record {
      last = record {
        before = added.last.before;
        next = added.last.next;
        log = added.last.log;
        seen = prefix_trans c.args.front.now c.announce.new.front added.last.before c.announce.ensures.front added.last.seen;
      };
      whole = added.whole;
      asked = added.asked;
    }
