use Rattle.std.proofs.Common.{◌∙◌, ap, take}
use Rattle.std.proofs.lemmas.Result.{on_ok_weaker}
use Rattle.chart_lines.proofs.Joining.{added_first, joined_first}
use Rattle.chart_lines.proofs.rows.add_row.Goals as goal

pub returns-in-Some : goal.returns-in-Some
returns-in-Some c =
    let from = c.args.from in
    let cut = c.first_rows.ensures ∙ ap (λ rows. take from rows) c.as_slice.ensures.value in
    on_ok_weaker c.join.result (λ is. joined_first c.args.ports.now c.args.reported from c.first_rows.result.now c.args.rows.now.items c.join.new.rows.items c.in-Some.place cut c.requires.within c.in-Some.ensures is) c.join.ensures

pub returns-in-None : goal.returns-in-None
returns-in-None c =
    let from = c.args.from in
    let cut = c.first_rows.ensures ∙ ap (λ rows. take from rows) c.as_slice.ensures.value in
    on_ok_weaker c.push_row.result (λ is. added_first c.args.ports.now c.args.reported from c.first_rows.result.now c.args.rows.now.items c.push_row.new.rows.items cut c.in-None.ensures c.requires.other is) c.push_row.ensures
