use Rattle.std.proofs.Common.{◌∙◌}
use Rattle.basm_lex.proofs.Groups.{starts_rise, between_starts}
use Rattle.basm_lex.proofs.mnemonics.candidates.Goals as goal

pub part-requires-clause-order : goal.part-requires-clause-order
part-requires-clause-order c =
    (starts_rise c.args.group c.start_of.result c.start_of-2.result c.requires c.start_of.ensures c.start_of-2.ensures).0

pub part-requires-clause-within : goal.part-requires-clause-within
part-requires-clause-within c =
    (starts_rise c.args.group c.start_of.result c.start_of-2.result c.requires c.start_of.ensures c.start_of-2.ensures).1

pub returns : goal.returns
returns c = c.part.ensures ∙ between_starts c.args.group c.start_of.result c.start_of-2.result c.requires c.start_of.ensures c.start_of-2.ensures
