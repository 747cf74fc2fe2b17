-- The node that is served, with the program that judges in all slots at first.
use Rattle.std.specs.Prelude.{◌≡◌, string_bytes}
use Rattle.bver.specs.Justified.{AcceptedValue, IsJustified}
use Rattle.machine.specs.Runs.{IsSafe}
use Rattle.job_config.specs.OwnNodes.{OwnNodeValue, plain_node}
use Rattle.job_config.specs.Reads.{ReadsNode}
use Rattle.job_config.specs.declared.sources.NodeSource.{NodeSource}
use Rattle.job_config.specs.declared.sources.NodeSource.TheVariants.{File, Words}
use Rattle.job_parts.specs.Files.{ReadsFile}
use Rattle.job_parts.specs.Given.{HoldsProgram}
use Rattle.job_parts.specs.Options.{image_name}
use Rattle.job_parts.specs.declared.options.NodeWords.{NodeWords}

module _ {S : Type 0} (reads : ReadsFile S) where
  -- the node is that of the words, with the program that its files give, which is justified on it, and so safe
  pub record IsPlainOwn (words : NodeWords) (before : S) (own : OwnNodeValue) (program : AcceptedValue) (after : S) : Type 0
    where
      pub given : HoldsProgram reads before (image_name words) program.program after
      pub sizes : program.sizes ≡ words.sizes
      pub justified : IsJustified program.program words.sizes
      pub safe : IsSafe program.program words.sizes
      pub node : own ≡ plain_node words.ports words.sizes

  -- the same of words or of a file
  abbrev pub HoldsOwn : NodeSource → (before : S) → OwnNodeValue → AcceptedValue → (after : S) → Type 0
  HoldsOwn (Words words) before own program after = IsPlainOwn words before own program after
  HoldsOwn (File name) before own program after = ReadsNode reads (string_bytes name) before own program after
