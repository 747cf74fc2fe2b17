-- How a program runs at a port of a node of one thread, and asks the node's cells.
use Rattle.std.specs.Prelude.{ℕ}
use Rattle.bank.specs.Records.{AdmittedValue, JudgedValue}
use Rattle.bver.specs.Justified.{AcceptedValue}
use Rattle.rmap.specs.Command.{CommandValue}
use Rattle.node_parts.specs.Passes.{RunContextValue}
use Rattle.node_parts.specs.Steps.{HasRun, IsJudgedOnce}
use Rattle.plain_cells.specs.Cells.{AreAsked, PlainCellsValue}

-- the program had one run on the command's header, which ended with that verdict, and the cells answered its calls
pub record HasRunOn (program : AcceptedValue) (old new : RunContextValue) (before after : PlainCellsValue)
    (c : CommandValue) (verdict : ℕ) : Type 0 where
  pub ran : HasRun program old new c verdict
  pub cells : AreAsked ran.calls before after

-- the admitted command was judged in one run by the program of that generation, and the cells answered its calls
pub record IsJudgedOn (program : AcceptedValue) (generation : ℕ) (old new : RunContextValue)
    (before after : PlainCellsValue) (admitted : AdmittedValue) (j : JudgedValue) : Type 0 where
  pub once : IsJudgedOnce program generation old new admitted j
  pub cells : AreAsked once.calls before after
