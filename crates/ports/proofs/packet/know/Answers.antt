use mathlib.Core.List.{IsPrefix}
use Rattle.annals.specs.Chains.{done_for}
use Rattle.annals.specs.Publishes.{publishes_of}
use Rattle.lemmas.proofs.Prefixes.{both_begin, prefix_trans}
use Rattle.ports.proofs.packet.know.Goals as goal

pub returns-clause-seen : goal.returns-clause-seen
returns-clause-seen g c = prefix_trans _ c.announce.new.known _ c.announce.ensures.known c.announce-2.ensures.old

pub returns-clause-published : goal.returns-clause-published
returns-clause-published g c = both_begin _ _ c.knows_all.ensures.begins c.announce-2.ensures.reported

pub returns-clause-did : goal.returns-clause-did
returns-clause-did g c =
    both_begin _ _ c.knows_entries.ensures.begins (prefix_trans _ _ _ c.announce.ensures.reported (c.acts_grow.ensures _ _ _ c.announce-2.ensures.old))
