use Rattle.job_suite.proofs.RangeLists.{no_extended, no_low, no_high}
use Rattle.job_suite.proofs.ranges.range_written.Goals as goal

pub returns-in_default : goal.returns-in_default
returns-in_default c = no_extended c.args.part.now _ c.at_colon.ensures.before c.in_default.ensures.writes

pub returns-in_default-hex_written : goal.returns-in_default-hex_written
returns-in_default-hex_written c =
    no_low c.args.part.now _ _ c.at_colon.ensures.following c.at_dash.ensures.before c.in_default-hex_written.ensures.writes

pub returns-in_default-hex_written-2 : goal.returns-in_default-hex_written-2
returns-in_default-hex_written-2 c =
    no_high c.args.part.now _ _ c.at_colon.ensures.following c.at_dash.ensures.following c.in_default-hex_written-2.ensures.writes
