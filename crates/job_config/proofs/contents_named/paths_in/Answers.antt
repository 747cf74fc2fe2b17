use Rattle.std.proofs.Common.{◌≡◌, get_or, map, arith}
use Rattle.std.specs.Prelude.{string_bytes}
use Rattle.std.proofs.lemmas.Grind.{common_steps}
use Rattle.job_config.proofs.ContentsPaths.{paths_go_further, paths_go_to_end}
use Rattle.job_config.proofs.contents_named.paths_in.Goals as goal

pub loop-index-preserved : goal.loop-index-preserved
loop-index-preserved c =
    let item = c.index-list-index.result in
    let at_item : get_or c.args.list.now c.loop-index.index item ≡ item = grind (arith, common_steps) in
    paths_go_further c.args.file.now c.args.list.now c.loop-index.index (map string_bytes c.loop-index.paths.items)
    (map string_bytes c.add_path.new.paths.items) item c.loop-index-test.true at_item c.in_ok-add_path.ensures c.loop-index.invariant

pub returns : goal.returns
returns c =
    paths_go_to_end c.args.file.now c.args.list.now c.loop-index.index (map string_bytes c.loop-index.paths.items) c.loop-index-test.false
    c.loop-index.invariant
