use Rattle.std.proofs.Common.{inr, refl}
use Rattle.policy_table.specs.Words.{texts_of}
use Rattle.policy_table.proofs.lines.read_rule.Goals as goal

pub returns-in-Err : goal.returns-in-Err
returns-in-Err c =
    inr (
      c.in-Err.word,
      refl,
      record {
        words = texts_of c.in-Some.words;
        are = c.in-Some.ensures;
        first = c.in-Err.ensures;
      },
    )
