use Rattle.std.proofs.Common.{inr, refl, sym, ◌∙◌}
use Rattle.job_live.proofs.answering.setting_inside.Goals as goal

pub returns-else-is_inside-clause-err : goal.returns-else-is_inside-clause-err
returns-else-is_inside-clause-err c =
    inr (
      refl,
      record {
        setting = c.in_ok-setting.setting;
        written = c.in_ok-setting.ensures.ok;
        outside = sym c.is_inside.ensures ∙ c.if-is_inside.false;
      },
    )
