use Rattle.std.proofs.Common.{lit<, rules}
use Rattle.std.proofs.lemmas.Iterator.{YieldsList-from_map_by}
use Rattle.std.proofs.lemmas.Iterator.Consumers.{YieldsList-at, map_from_collect}
use Rattle.std.proofs.lemmas.Iterator.Splits.{YieldsList-from_str_split}
use Rattle.basm_lex.specs.Lines.{trimmed_text}
use Rattle.basm_lex.proofs.Spaces.{some_separated}
use Rattle.basm_lex.proofs.statements.read_operands.Goals as goal

pub returns-else-is_empty : goal.returns-else-is_empty
returns-else-is_empty c =
    let collected = map_from_collect _ c.collect.ensures.ran
    (YieldsList-from_map_by _ (λ operand. operand.now) trimmed_text
    (YieldsList-at c.map.ensures.source
    (YieldsList-from_str_split 44 c.args.rest.now (lit< tt) c.split.ensures.text c.split.ensures.has_more c.split.ensures.pattern))
    c.map.ensures.closure
    (λ x r q k. search rules)) in
    rw (some_separated c.args.rest.now (search rules)) at collected
