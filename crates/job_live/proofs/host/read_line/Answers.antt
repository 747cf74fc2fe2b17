use Rattle.std.proofs.Common.{rules, ap, ◌∙◌}
use Rattle.job_live.specs.HostLines.{LosesLine, text_with}
use Rattle.job_live.proofs.HostReading.{gives_more, reads_more, still_line}
use Rattle.job_live.proofs.host.read_line.Goals as goal

pub returns-in_err-put_byte-in-Some-clause-lost : goal.returns-in_err-put_byte-in-Some-clause-lost
returns-in_err-put_byte-in-Some-clause-lost g c =
    let so_far = c.loop-count.invariant in
    let lost : LosesLine (g.I.Read.remaining c.args.input.now) (g.I.Read.remaining c.read_byte.new.input) = record {
      bytes = _;
      is_line = still_line so_far.bytes c.in-Some.byte so_far.is_line (search rules);
      read = reads_more _ _ _ so_far.bytes _ so_far.is_read (search rules);
    } in search rules

pub loop-count-preserved : goal.loop-count-preserved
loop-count-preserved g c =
    let so_far = c.loop-count.invariant in
    record {
      bytes = _;
      is_line = still_line so_far.bytes c.in-Some.byte so_far.is_line (search rules);
      is_read = reads_more _ _ _ so_far.bytes _ so_far.is_read (search rules);
      gives = (search rules) ∙ ap (λ text. text_with text c.in-Some.byte) so_far.gives ∙ gives_more so_far.bytes c.in-Some.byte;
    }
