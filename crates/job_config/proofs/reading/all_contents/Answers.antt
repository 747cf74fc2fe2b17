use Rattle.std.proofs.Common.{refl, sym, ◌∙◌}
use Rattle.job_config.proofs.Each.{banks_count, banks_none, count_view}
use Rattle.job_config.proofs.reading.all_contents.Goals as goal

pub contents_of-requires : goal.contents_of-requires
contents_of-requires g c =
    sym (count_view c.in-Some.list.now) ∙ sym (banks_count _ _ c.args.banks.now (rw c.in-Some.is at c.in_ok-list.ensures.ok) c.requires)

pub returns-in_ok-no_contents-in-None-clause-fit : goal.returns-in_ok-no_contents-in-None-clause-fit
returns-in_ok-no_contents-in-None-clause-fit g c =
    let banks = banks_none _ c.args.banks.now (rw c.in-None.is at c.in_ok-list.ensures.ok) c.requires in
    rw (banks, c.in_ok-no_contents-in-None.ensures) refl
