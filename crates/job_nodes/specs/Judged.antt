-- What the job `judge` reads and prints.
use Rattle.std.specs.Prelude.{◌≡◌, ◌⊎◌, ℕ, List, Option, Some, string_bytes}
use Rattle.std.specs.Str.{IsUtf8}
use Rattle.spw.specs.Line.{lines_of}
use Rattle.job_config.specs.declared.node_lines.NodeLines.{NodeLines}
use Rattle.job_parts.specs.Files.{ReadsFile}
use Rattle.job_parts.specs.Reading.{TextUnread}
use Rattle.job_parts.specs.Turns.{AreTaken, StopsInLines}
use Rattle.job_parts.specs.declared.faults.Fault.{Fault}
use Rattle.job_nodes.specs.JobNode.{JobNodeValue}
use Rattle.job_nodes.specs.Lines.{IsBadLine, Judges}
use Rattle.job_nodes.specs.Sources.{HoldsNoNode, HoldsNode}

module _ {S : Type 0} (reads : ReadsFile S) (args : NodeLines) where
  -- the text is that of the file of lines, which is UTF-8, and the node, which was read after it, is that of these
  -- arguments
  pub record IsReady (before : S) (text : List ℕ) (node : JobNodeValue) (after : S) : Type 0 where
    pub between : S
    pub read : reads before (string_bytes args.lines) (Some text) between
    pub utf8 : IsUtf8 text
    pub holds : HoldsNode reads args.node between node after

  -- the lines were read, and are UTF-8, but there is no node
  pub record NodeUnread (before after : S) (fault : Fault) : Type 0 where
    pub text : List ℕ
    pub between : S
    pub read : reads before (string_bytes args.lines) (Some text) between
    pub utf8 : IsUtf8 text
    pub no_node : HoldsNoNode reads args.node between after fault

  -- lines or node cannot be read
  abbrev pub IsNotReady : (before after : S) → Fault → Type 0
  IsNotReady before after fault =
      TextUnread reads before (string_bytes args.lines) after fault ⊎ NodeUnread before after fault

  -- each line of the file was judged in turn on that node
  pub record JudgesFile (before after : S) (old new : Option (List ℕ)) : Type 0 where
    pub text : List ℕ
    pub fresh : JobNodeValue
    pub left : JobNodeValue
    pub ready : IsReady before text fresh after
    pub all : AreTaken Judges (lines_of text) fresh left old new

  -- each line before a bad one was judged in turn on that node
  pub record StopsAtLine (before after : S) (old new : Option (List ℕ)) (fault : Fault) : Type 0 where
    pub text : List ℕ
    pub fresh : JobNodeValue
    pub left : JobNodeValue
    pub ready : IsReady before text fresh after
    pub bad : StopsInLines Judges IsBadLine (lines_of text) fresh left old new fault

  -- why not all lines were judged: nothing was printed if lines or node cannot be read
  abbrev pub IsNotJudged : (before after : S) → (old new : Option (List ℕ)) → Fault → Type 0
  IsNotJudged before after old new fault =
      ((new ≡ old) × IsNotReady before after fault) ⊎ StopsAtLine before after old new fault
