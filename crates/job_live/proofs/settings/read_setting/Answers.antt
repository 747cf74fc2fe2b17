use Rattle.std.proofs.Common.{map, arith}
use Rattle.job_live.proofs.SetLines.{four_words, set_words}
use Rattle.job_live.proofs.settings.read_setting.Goals as goal

pub returns-clause-ok : goal.returns-clause-ok
returns-clause-ok c =
    let words = c.args.words.now in
    c.setting_of.ensures.ok (map (λ word. word.now) words)
    (set_words _ _ _ _ _ (four_words words _ (omega (arith, c.in-len4.len_at_least)) (omega (arith, c.in-len4.len_below))) c.requires)

pub returns-clause-err : goal.returns-clause-err
returns-clause-err c =
    let words = c.args.words.now in
    c.setting_of.ensures.err (map (λ word. word.now) words)
    (set_words _ _ _ _ _ (four_words words _ (omega (arith, c.in-len4.len_at_least)) (omega (arith, c.in-len4.len_below))) c.requires)
