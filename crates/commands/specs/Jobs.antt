-- What must be known of each job before it is done.
use Rattle.std.specs.Prelude.{ℕ, Bool, List, [], Option, None, Some, bytes_eq, codes, option_map, string_bytes}
use Rattle.machine.specs.Sizes.{Maps, listed_maps}
use Rattle.node_parts.specs.Nodes.{windows_of}
use Rattle.job_config.specs.Configured.{ConfigurationValue}
use Rattle.job_config.specs.declared.sources.NodeSource.{NodeSource}
use Rattle.job_config.specs.declared.sources.NodeSource.TheVariants.{File, Words}
use Rattle.job_packets.specs.MadePackets.{file_of}
use Rattle.job_show.specs.declared.show.ShowWords.{ShowWords}
use Rattle.job_suite.specs.SuiteJob.{name_of_table}
use Rattle.commands.specs.Facts.{for_node, on_image, on_lines, plain, serves_lines, shows}
use Rattle.commands.specs.ReadNames.{NamesValue, no_names, one_name, place_name, source_name, two_names}
use Rattle.commands.specs.declared.facts.Facts.{Facts}
use Rattle.commands.specs.declared.jobs.Job.{Job}
use Rattle.commands.specs.declared.jobs.Job.TheVariants.{Judge, Serve, Simulate, Trace, Assemble, Disassemble}
use Rattle.commands.specs.declared.jobs.Job.TheVariants.{Verify, Policy, Explain, Why, Weigh, Node, Packet, Show}
use Rattle.commands.specs.declared.jobs.Job.TheVariants.{Decide, Compare, Map, Rehearse, Suite}

-- the maps of a node that its options say; none of a node's file
abbrev pub maps_of_node : NodeSource → Maps
maps_of_node (File name) = listed_maps []
maps_of_node (Words words) = words.sizes

-- the lines are those of standard input
abbrev pub are_talked : ShowWords → Bool
are_talked words = bytes_eq (string_bytes words.lines) (codes "-")

-- what must be known of the job
abbrev pub facts_of : Job → Facts
facts_of (Assemble words) = plain
facts_of (Disassemble words) = plain
facts_of (Verify args) = on_image args.sizes
facts_of (Judge args) = on_lines (maps_of_node args.node)
facts_of (Policy words) = for_node
facts_of (Serve args) = serves_lines (maps_of_node args.node)
facts_of (Simulate args) = on_lines (maps_of_node args.node)
facts_of (Explain words) = plain
facts_of (Why args) = on_image args.sizes
facts_of (Weigh words) = on_image words.sizes
facts_of (Node words) = plain
facts_of (Packet words) = for_node
facts_of (Show words) = shows words.raw (are_talked words)
facts_of (Decide words) = for_node
facts_of (Trace args) = on_lines (maps_of_node args.node)
facts_of (Compare words) = for_node
facts_of (Map words) = for_node
facts_of (Rehearse words) = plain
facts_of (Suite words) = plain

-- the names of the files that a job reads
abbrev pub names_of_job : Job → NamesValue
names_of_job (Judge args) = two_names (string_bytes args.lines) (source_name args.node)
names_of_job (Serve args) = two_names (string_bytes args.lines) (source_name args.node)
names_of_job (Simulate args) = two_names (string_bytes args.lines) (source_name args.node)
names_of_job (Trace args) = two_names (string_bytes args.lines) (source_name args.node)
names_of_job (Assemble words) = one_name (string_bytes words.text)
names_of_job (Disassemble words) = one_name (string_bytes words.image)
names_of_job (Verify args) = one_name (string_bytes args.image)
names_of_job (Policy words) = one_name (string_bytes words.table)
names_of_job (Explain words) = no_names
names_of_job (Why args) = one_name (string_bytes args.image)
names_of_job (Weigh words) = one_name (string_bytes words.image)
names_of_job (Node words) =
    two_names (string_bytes words.node) (option_map string_bytes words.table)
names_of_job (Packet words) = record { first = file_of words.order; second = None; third = None }
names_of_job (Show words) = one_name (string_bytes words.lines)
names_of_job (Decide words) = two_names (string_bytes words.lines) (Some (string_bytes words.table))
names_of_job (Compare words) = two_names (string_bytes words.old) (Some (string_bytes words.new))
names_of_job (Map words) = one_name (string_bytes words.table)
names_of_job (Rehearse words) = record {
  first = Some (string_bytes words.old);
  second = Some (string_bytes words.new);
  third = place_name words.place;
}
names_of_job (Suite words) = record {
  first = name_of_table words.table;
  second = option_map string_bytes words.node;
  third = None;
}

-- the file of which the job makes another, and that one, if it makes one
abbrev pub made_of : Job → Option (List ℕ × List ℕ)
made_of (Assemble words) = Some (string_bytes words.text, string_bytes words.image)
made_of (Disassemble words) = None
made_of (Verify args) = None
made_of (Judge args) = None
made_of (Policy words) = Some (string_bytes words.table, string_bytes words.image)
made_of (Serve args) = None
made_of (Simulate args) = None
made_of (Explain words) = None
made_of (Why args) = None
made_of (Weigh words) = None
made_of (Node words) = None
made_of (Packet words) = None
made_of (Show words) = None
made_of (Decide words) = None
made_of (Trace args) = None
made_of (Compare words) = None
made_of (Map words) = None
made_of (Rehearse words) = None
made_of (Suite words) = None

-- the job for a node of these numbers, in place of what its options say of a node
abbrev pub placed : Job → ConfigurationValue → Job
placed (Assemble words) own = Assemble words
placed (Disassemble words) own = Disassemble words
placed (Verify args) own = Verify (record args { sizes = own.sizes })
placed (Judge args) own = Judge args
placed (Policy words) own = Policy (record words { sizes = own.sizes })
placed (Serve args) own = Serve args
placed (Simulate args) own = Simulate args
placed (Explain words) own = Explain words
placed (Why args) own = Why (record args { sizes = own.sizes })
placed (Weigh words) own = Weigh (record words { sizes = own.sizes })
placed (Node words) own = Node words
placed (Packet words) own = Packet (record words { header = record words.header { target = own.address } })
placed (Show words) own = Show words
placed (Decide words) own = Decide (record words {
  sizes = own.sizes;
  ports = own.ports;
  windows = windows_of own.address own.banks;
})
placed (Trace args) own = Trace args
placed (Compare words) own = Compare (record words { sizes = own.sizes; windows = windows_of own.address own.banks })
placed (Map words) own = Map (record words { sizes = own.sizes })
placed (Rehearse words) own = Rehearse words
placed (Suite words) own = Suite words

-- whether the lines that the job reads are those of a dump
abbrev pub is_dump : Job → Bool
is_dump job = (facts_of job).is_dump

-- the maps for which the job takes the text of a program or a table in the place of an image, if it does
abbrev pub maps_of_job : Job → Option Maps
maps_of_job job = (facts_of job).maps
