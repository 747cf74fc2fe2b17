-- Two comparisons of the same tables say the same of each command.
use Rattle.std.proofs.Common.{◌⊎◌, inl, inr, Bool, true, false, List, sym, ◌∙◌}
use Rattle.policy_table.specs.declared.rules.Rule.{Rule}
use Rattle.regions.specs.declared.points.Point.{Point}
use Rattle.regions.specs.declared.regions.PointRegion.{PointRegion}
use Rattle.charts.specs.Lines.{IsComparison, IsReportedRightly, is_reported}
use Rattle.charts.specs.declared.lines.ChartLine.{ChartLine}
use Rattle.differences.specs.Joined.{IsSaidByBoth, IsSaidByNone, SayTheSame}

said : (reported : Bool) (old new : List Rule) (one other : List ChartLine) (p : Point) → IsReportedRightly reported old new one p → IsReportedRightly reported old new other p
    → IsSaidByBoth old new one other p ⊎ IsSaidByNone one other p
said true old new one other p own its = inl (record {
  own = own.line;
  its = its.line;
  own_alone = own.alone;
  its_alone = its.alone;
  old_path = sym own.old_path ∙ its.old_path;
  new_path = sym own.new_path ∙ its.new_path;
})
said false old new one other p own its = inr (record { own = own; its = its })

pub say_the_same : (asked : PointRegion) (old new : List Rule) (one other : List ChartLine) → IsComparison asked old new one → IsComparison asked old new other
    → SayTheSame old new one other
say_the_same asked old new one other own its p command = said (is_reported asked false old new p) old new one other p (own p command) (its p command)
