-- What must be known of a job before it is done.
use Rattle.std.specs.Prelude.{Bool, true, false, None, Some}
use Rattle.machine.specs.Sizes.{Maps}
use Rattle.commands.specs.declared.facts.Facts.{Facts}

-- a job that has none of these
abbrev pub plain : Facts
plain = record { takes_file = false; is_dump = false; talks = false; starts_threads = false; maps = None }

-- one whose options may be left to a node's file
abbrev pub for_node : Facts
for_node = record { takes_file = true; is_dump = false; talks = false; starts_threads = false; maps = None }

-- one on lines, for a node with maps of these sizes
abbrev pub on_lines : Maps → Facts
on_lines sizes = record { takes_file = false; is_dump = false; talks = false; starts_threads = false; maps = Some sizes }

-- one that serves lines in threads, for a node with maps of these sizes
abbrev pub serves_lines : Maps → Facts
serves_lines sizes = record { takes_file = false; is_dump = false; talks = false; starts_threads = true; maps = Some sizes }

-- one on an image, for a node with maps of these sizes, or of a node's file
abbrev pub on_image : Maps → Facts
on_image sizes = record { takes_file = true; is_dump = false; talks = false; starts_threads = false; maps = Some sizes }

-- one that says what lines are: whether they are those of a dump, and whether they are those of standard input
abbrev pub shows : (is_dump talks : Bool) → Facts
shows is_dump talks = record { takes_file = false; is_dump = is_dump; talks = talks; starts_threads = false; maps = None }
