use Rattle.std.proofs.Common.{◌≡◌, ◌∷◌, [], ap, ◌∙◌, length, get_or, arith}
use Rattle.std.proofs.lemmas.Grind.{common_steps}
use Rattle.std.proofs.lemmas.List.{length-append}
use Rattle.job_config.proofs.Chains.{some_read}
use Rattle.job_config.proofs.Contents.{fit_further, goes_further, goes_to_end}
use Rattle.job_config.proofs.reading.contents_of.Goals as goal

pub loop-index-preserved : goal.loop-index-preserved
loop-index-preserved g c =
    let (so_far, fits, long, read) = c.loop-index.invariant in
    let item = c.index-list-index.result in
    let at_item : get_or c.args.list.now c.loop-index.index item ≡ item = grind (arith, common_steps) in
    let longer = length-append c.loop-index.contents.items (c.in_ok-own.own ∷ []) in (
      goes_further g.F.Files.reads c.args.file.now c.args.list.now c.args.banks.now c.loop-index.index c.args.files.now c.loop-index.files
          c.contents_in.new.files c.loop-index.contents.items c.push.new.self.items item _ c.in_ok-own.own
          (omega (arith, c.requires, c.loop-index-test.true)) c.loop-index-test.true at_item c.in_ok-push.ensures.items
          c.in_ok-own.ensures.held so_far,
      fit_further c.args.banks.now c.loop-index.contents.items c.push.new.self.items c.loop-index.index _ c.in_ok-own.own
          c.loop-index-test.true c.in_ok-push.ensures.items fits c.in_ok-own.ensures.short,
      ap length c.in_ok-push.ensures.items ∙ longer ∙ omega (arith, long),
      some_read g.F.Files.reads _ _ _ read c.in_ok-own.ensures.read,
    )

pub returns-in_err-own-clause-read : goal.returns-in_err-own-clause-read
returns-in_err-own-clause-read g c =
    let (so_far, fits, long, read) = c.loop-index.invariant in
    some_read g.F.Files.reads _ _ _ read c.in_err-own.ensures.read

pub returns-in_err-push-clause-read : goal.returns-in_err-push-clause-read
returns-in_err-push-clause-read g c =
    let (so_far, fits, long, read) = c.loop-index.invariant in
    some_read g.F.Files.reads _ _ _ read c.in_ok-own.ensures.read

pub returns-clause-held : goal.returns-clause-held
returns-clause-held g c =
    let (so_far, fits, long, read) = c.loop-index.invariant in
    goes_to_end g.F.Files.reads c.args.file.now c.args.list.now c.args.banks.now c.loop-index.index c.args.files.now c.loop-index.files
    c.loop-index.contents.items c.loop-index-test.false so_far
