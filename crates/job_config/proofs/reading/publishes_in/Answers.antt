use Rattle.std.proofs.Common.{◌≡◌, ◌∷◌, [], ap, ◌∙◌, get_or, length, arith}
use Rattle.std.proofs.lemmas.Grind.{common_steps}
use Rattle.std.proofs.lemmas.List.Elements.{All-push}
use Rattle.job_config.specs.OwnNodes.{IsPublish}
use Rattle.std.proofs.lemmas.List.{length-append}
use Rattle.job_config.proofs.Chains.{some_read}
use Rattle.job_config.proofs.Contents.{publishes_go_further, publishes_go_to_end}
use Rattle.job_config.proofs.reading.publishes_in.Goals as goal

pub loop-index-preserved : goal.loop-index-preserved
loop-index-preserved g c =
    let (so_far, read, each, long) = c.loop-index.invariant in
    let item = c.index-list-index.result in
    let at_item : get_or c.args.list.now c.loop-index.index item ≡ item = grind (arith, common_steps) in
    let longer = length-append c.loop-index.publishes.items (c.in_ok-publish.publish ∷ []) in (
      publishes_go_further g.F.Files.reads c.args.file.now c.args.list.now c.loop-index.index c.args.files.now c.loop-index.files
          c.publish_in.new.files c.loop-index.publishes.items c.push.new.self.items item c.in_ok-publish.publish c.loop-index-test.true at_item
          c.in_ok-push.ensures.items c.in_ok-publish.ensures.held so_far,
      some_read g.F.Files.reads _ _ _ read c.in_ok-publish.ensures.read,
      rw c.in_ok-push.ensures.items (All-push (IsPublish c.args.sizes) c.loop-index.publishes.items c.in_ok-publish.publish each c.in_ok-publish.ensures.each),
      ap length c.in_ok-push.ensures.items ∙ longer ∙ omega (arith, long),
    )

pub returns-in_err-publish-clause-read : goal.returns-in_err-publish-clause-read
returns-in_err-publish-clause-read g c =
    let (so_far, read, each, long) = c.loop-index.invariant in
    some_read g.F.Files.reads _ _ _ read c.in_err-publish.ensures.read

pub returns-in_err-push-clause-read : goal.returns-in_err-push-clause-read
returns-in_err-push-clause-read g c =
    let (so_far, read, each, long) = c.loop-index.invariant in
    some_read g.F.Files.reads _ _ _ read c.in_ok-publish.ensures.read

pub returns-clause-held : goal.returns-clause-held
returns-clause-held g c =
    let (so_far, read, each, long) = c.loop-index.invariant in
    publishes_go_to_end g.F.Files.reads c.args.file.now c.args.list.now c.loop-index.index c.args.files.now c.loop-index.files
    c.loop-index.publishes.items c.loop-index-test.false so_far
