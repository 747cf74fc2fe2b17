use Rattle.std.proofs.Common.{rules, ◌≡◌, ◌∙◌, ◌++◌, ◌-◌, length, take}
use Rattle.std.specs.Prelude.{min}
use Rattle.spw.proofs.Filling.{filled}
use Rattle.spw.proofs.feed.Feed.fill.Goals as goal

pub returns-clause-filled : goal.returns-clause-filled
returns-clause-filled c =
    let held = c.args.self.now in
    let bytes = c.args.bytes.now in
    let added : c.extend_from_slice.new.self.items ≡ held ++ take (min (4200 - length held) (length bytes)) bytes = search rules in
    added ∙ filled 4200 held bytes (search rules)
