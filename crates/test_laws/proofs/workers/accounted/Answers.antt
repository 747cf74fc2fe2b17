use Rattle.std.proofs.Common.{◌≡◌, List, subst, sym}
use mathlib.Core.List.{IsPrefix}
use Rattle.annals.specs.Chains.{Due, done_for}
use Rattle.ports.specs.Due.{Standing}
use Rattle.ports.specs.Worked.{standing_of}
use Rattle.target.specs.Lines.{CountsAllOf}
use Rattle.target.specs.Passes.{PortPass}
use Rattle.test_laws.specs.Accounts.{IsAccounted}
use Rattle.lemmas.proofs.Prefixes.{both_begin}
use Rattle.test_laws.proofs.workers.accounted.Goals as goal

pub returns : goal.returns
returns g c =
    let worked = c.work-report.ensures.worked in
    let after = standing_of c.work-report.new.worker in
    let known = c.announce.new.known in
    let knows : IsPrefix after.front known = subst (λ (front : List _). IsPrefix front known) c.again-known.ensures c.announce.ensures.known in
    let counts : CountsAllOf after.pass known = c.knows_entries.ensures.entries in
    let own : done_for after.pass.port known ≡ after.asked = both_begin (done_for after.pass.port known) after.asked c.knows_entries.ensures.begins c.announce.ensures.reported in
    let all : IsAccounted (standing_of c.args.worker.now) after known = record {
      packets = worked.packets;
      deeds = worked.served.deeds;
      worked = worked.served.worked;
      known = knows;
      programs = c.workers_programs_were_published.ensures _ _ _ _ worked.served.worked;
      follow = c.workers_entries_follow.ensures _ _ _ _ worked.served.worked;
      entries = c.workers_entries_are_all.ensures _ _ _ _ known worked.served.worked knows counts;
      publishes = c.workers_publishes_are_all.ensures _ _ _ _ known worked.served.worked own;
    } in
    rw (c.knows_entries.ensures.same) all
