-- Standard input, which one read ends: no two of the files that a work reads are it.
use Rattle.std.specs.Prelude.{◌||◌, ℕ, Bool, false, List, Option, Some, None, string_bytes}
use Rattle.job_parts.specs.TwoFiles.{are_one_input}
use Rattle.commands.specs.Jobs.{names_of_job}
use Rattle.commands.specs.ReadNames.{NamesValue, no_names}
use Rattle.commands.specs.declared.work.Work.{Work}
use Rattle.commands.specs.declared.work.Work.TheVariants.{Once, OnNode, Live, Printed}

-- the names of the files that a work reads: those of its job, and that of the node's file to which the job is left. A
-- talk reads at most one file, and a text none
abbrev pub names_of_work : Work → NamesValue
names_of_work (Once job) = names_of_job job
names_of_work (OnNode own) = record (names_of_job own.job) { third = Some (string_bytes own.node) }
names_of_work (Live words) = no_names
names_of_work (Printed text) = no_names

-- both files have a name, and it is that of standard input
abbrev pub are_both_input : (one other : Option (List ℕ)) → Bool
are_both_input None other = false
are_both_input (Some one) None = false
are_both_input (Some one) (Some other) = are_one_input one other

-- two of the files are standard input
abbrev pub are_twice_input : NamesValue → Bool
are_twice_input names =
    are_both_input names.first names.second || are_both_input names.first names.third
    || are_both_input names.second names.third

-- a work reads standard input for two of its files
abbrev pub reads_input_twice : Work → Bool
reads_input_twice work = are_twice_input (names_of_work work)
