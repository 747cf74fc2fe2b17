-- What is noted of the files that a job reads.
use Rattle.std.specs.Prelude.{◌≡◌, Bool, false, true, ℕ, ◌+◌, List, Option, None, Some, min}
use Rattle.machine.specs.Sizes.{Maps}
use Rattle.commands.specs.InPlace.{IsInPlace}
use Rattle.job_parts.specs.declared.inputs.Content.{Content}
use Rattle.job_parts.specs.declared.inputs.Content.TheVariants as content
use Rattle.job_parts.specs.declared.inputs.InputFile.{InputFile}
use Rattle.commands.specs.declared.noted.FileNotes.{FileNotes}
use Rattle.commands.specs.declared.noted.FileNode.{FileNode}
use Rattle.commands.specs.declared.noted.TheConstants.{MAX_TEXT}

-- whether the lines that are read next are those of a dump
abbrev pub reads_dump : FileNotes → Bool
reads_dump noted = noted.is_dump

-- the maps for which the image is given of the text of a program or a table in the place of an image, if it is
abbrev pub maps_for : FileNotes → Option Maps
maps_for noted = noted.maps

-- what the file must be that is read next. Of one that a node's own file names, all that is known is that no bank has
-- more bytes
abbrev pub wanted_content : Option InputFile → Content
wanted_content None = content.Bytes (MAX_TEXT + 1)
wanted_content (Some input) = input.content

-- the same of what is noted
abbrev pub next_content : FileNotes → Content
next_content noted = wanted_content noted.inputs.first

-- whether a file that must be that may be the text of a program or a table in the place of an image
abbrev pub may_be_text : Content → Bool
may_be_text content.Lines = false
may_be_text content.Text = false
may_be_text content.Table = false
may_be_text content.ImageOrText = true
may_be_text content.Node = false
may_be_text content.Image = true
may_be_text (content.Bytes enough) = false

-- what is given of the bytes of a file. If there are maps and the file may be an image, the image is given in the place
-- of a text that gives one. All else is given as it is
abbrev pub GivesFor : Option Maps → (is_image : Bool) → (bytes given : List ℕ) → Type 0
GivesFor None is_image bytes given = given ≡ bytes
GivesFor (Some maps) true bytes given = IsInPlace maps bytes given
GivesFor (Some maps) false bytes given = given ≡ bytes

-- the same of a file that must be that
abbrev pub GivesPlaced : FileNotes → Content → (bytes given : List ℕ) → Type 0
GivesPlaced noted content bytes given = GivesFor (maps_for noted) (may_be_text content) bytes given

-- how many ports the node of a job has: those that its file says, or 32
abbrev pub ports_of : Option FileNode → ℕ
ports_of None = 32
ports_of (Some node) = min node.ports 32

-- how many bytes are read of a file that must be that: one that has this many is too long, or has enough
abbrev pub most_of : Content → ℕ
most_of content.Lines = 18446744073709551615
most_of content.Text = MAX_TEXT + 1
most_of content.Table = MAX_TEXT + 1
most_of content.ImageOrText = MAX_TEXT + 1
most_of content.Node = MAX_TEXT + 1
most_of content.Image = MAX_TEXT + 1
most_of (content.Bytes enough) = enough
