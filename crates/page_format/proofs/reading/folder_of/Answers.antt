use Rattle.std.proofs.Common.{rules, tests}
use Rattle.page_format.proofs.Found.{one_read}
use Rattle.page_format.proofs.Refused.{no_file_no_folder, some_left}
use Rattle.page_format.proofs.reading.folder_of.Goals as goal

pub returns-in_default : goal.returns-in_default
returns-in_default c =
    no_file_no_folder c.args.bytes.now c.loop-rest.rest.now c.loop-rest.folder c.loop-rest.invariant (some_left c.loop-rest.rest.now c.is_empty.result c.is_empty.ensures (search (rules, tests))) c.in_default.ensures

pub loop-rest-preserved : goal.loop-rest-preserved
loop-rest-preserved c =
    one_read c.args.bytes.now c.loop-rest.rest.now c.in-Some.name.now c.in-Some.content.now c.in-Some.after.now c.loop-rest.folder c.put.new.self c.loop-rest.invariant c.in-Some.ensures c.in_ok-put.ensures
