use Rattle.std.proofs.Common.{sym, ◌∙◌}
use Rattle.basm.specs.Names.{slot_named}
use Rattle.basm.proofs.LoopReadings.{end_number}
use Rattle.basm.proofs.directives.read_end.Goals as goal

pub returns-else-is_name-clause-exact : goal.returns-else-is_name-clause-exact
returns-else-is_name-clause-exact c = λ slot small w.
    c.read_short.ensures.exact slot small (end_number (slot_named c.args.names.now) c.args.word.now slot (sym c.is_name.ensures ∙ c.if-is_name.false) w)
