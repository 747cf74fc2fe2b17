-- The values of the options: the maps of a node, and how many ports it has; and the words of a node.
use Rattle.std.specs.Prelude.{◌≡◌, ◌≤◌, ◌==◌, ◌⊎◌, codes, ℕ, Bool, false, if◌then◌else◌, List, [], ◌∷◌, map, All}
use Rattle.std.specs.Prelude.{Option, Some, None, option_map, string_bytes}
use Rattle.std.specs.Borrow.{Bor}
use Rattle.std.specs.List.{slice_split}
use Rattle.std.specs.Str.Parse.{IsNumeral, digits_value}
use Rattle.clap.specs.Walk.{Row, first_of}
use Rattle.clap.specs.Simple.{App, with_rule}
use Rattle.machine.specs.Sizes.{Maps, AreSizes, listed_maps}
use Rattle.machine.specs.declared.kinds.MapKind.{MapKind}
use Rattle.machine.specs.declared.kinds.MapKind.TheVariants.{Counter, Peak}
use Rattle.machine.specs.declared.sizes.TheConstants.{MAX_CELLS}
use Rattle.job_parts.specs.Arguments.{option_rule}
use Rattle.job_parts.specs.declared.options.NodeWords.{NodeWords}
use Rattle.job_parts.specs.declared.usage.UsageFault.{UsageFault}
use Rattle.job_parts.specs.declared.usage.UsageFault.TheVariants.{Parse, BadOption, Memory}

-- decimal digits, leading zeros among them, that write a number from `least` to `most`
abbrev pub IsNumberWithin : (least most : ℕ) → List ℕ → Type 0
IsNumberWithin least most word = IsNumeral 10 word × (least ≤ digits_value 10 word) × (digits_value 10 word ≤ most)

-- the word is of the form, and writes the number
abbrev pub WritesSuch : (form : List ℕ → Type 0) → List ℕ → ℕ → Type 0
WritesSuch form word n = form word × (n ≡ digits_value 10 word)

-- the fault of a value that is not right
abbrev pub IsBadValue : (right : Type 0) → UsageFault → Type 0
IsBadValue right fault = (fault ≡ BadOption) × ¬ right

-- the same; or memory was refused
abbrev pub IsOptionFault : (right : Type 0) → UsageFault → Type 0
IsOptionFault right fault = (fault ≡ Memory) ⊎ IsBadValue right fault

-- how many cells a map has: one to 256
abbrev pub IsSize : List ℕ → Type 0
IsSize part = IsNumberWithin 1 MAX_CELLS part

-- a part of a list ends in the letter p (112): it is of a peak map
abbrev pub is_of_peaks : List ℕ → Bool
is_of_peaks [] = false
is_of_peaks (letter ∷ []) = letter == 112
is_of_peaks (letter ∷ next ∷ part) = is_of_peaks (next ∷ part)

-- a part without its last letter
abbrev pub without_last : List ℕ → List ℕ
without_last [] = []
without_last (letter ∷ []) = []
without_last (letter ∷ next ∷ part) = letter ∷ without_last (next ∷ part)

-- the digits of a part: all of it, except the letter of a peak map
abbrev pub size_word : List ℕ → List ℕ
size_word part = if is_of_peaks part then without_last part else part

-- a part writes a map: how many cells it has, and for a peak map the letter p after it
abbrev pub IsMapPart : List ℕ → Type 0
IsMapPart part = IsSize (size_word part)

-- the kind of the map that a part writes
abbrev pub map_kind_of : List ℕ → MapKind
map_kind_of part = if is_of_peaks part then Peak else Counter

-- the map that a part writes: its number of cells, and its kind
abbrev pub map_of_part : List ℕ → ℕ × MapKind
map_of_part part = (digits_value 10 (size_word part), map_kind_of part)

-- a part writes the map
abbrev pub WritesMap : List ℕ → ℕ × MapKind → Type 0
WritesMap part m = IsMapPart part × (m ≡ map_of_part part)

-- each part writes a map
abbrev pub WriteMaps : List (Bor (List ℕ)) → List (ℕ × MapKind) → Type 0
WriteMaps parts maps = All (λ part. IsMapPart part.now) parts × (maps ≡ map (λ part. map_of_part part.now) parts)

-- the parts of a list, which commas (44) separate
abbrev pub list_parts : List ℕ → List (List ℕ)
list_parts text = slice_split (λ code. code == 44) text

-- the maps that the parts of a list write
abbrev pub written_maps : List ℕ → Maps
written_maps text = listed_maps (map (λ part. map_of_part part) (list_parts text))

-- a list of maps that a node may have
abbrev pub IsMapList : List ℕ → Type 0
IsMapList text = All (λ part. IsMapPart part) (list_parts text) × AreSizes (written_maps text)

-- how many ports a node has: one to 32
abbrev pub IsPortCount : List ℕ → Type 0
IsPortCount word = IsNumberWithin 1 32 word

-- the maps are those that the option's value writes; without the option there are none
abbrev pub GivesSizes : Option (List ℕ) → Maps → Type 0
GivesSizes None sizes = sizes ≡ listed_maps []
GivesSizes (Some text) sizes = IsMapList text × (sizes ≡ written_maps text)

-- the number of ports is what the option's value writes; without the option it is one
abbrev pub GivesPorts : Option (List ℕ) → ℕ → Type 0
GivesPorts None ports = ports ≡ 1
GivesPorts (Some word) ports = IsPortCount word × (ports ≡ digits_value 10 word)

-- the option has a value that is no list of maps
abbrev pub IsBadList : Option (List ℕ) → Type 0
IsBadList None = ⊥
IsBadList (Some text) = ¬ IsMapList text

-- the option has a value that is no number of ports
abbrev pub IsBadCount : Option (List ℕ) → Type 0
IsBadCount None = ⊥
IsBadCount (Some word) = ¬ IsPortCount word

-- matches with such a list for --maps, or memory was refused
abbrev pub RefusesList : List Row → UsageFault → Type 0
RefusesList rows Memory = Unit {0}
RefusesList rows BadOption = IsBadList (first_of (codes "maps") rows)
RefusesList rows (Parse text) = ⊥

-- matches with such a count for --ports
abbrev pub RefusesCount : List Row → UsageFault → Type 0
RefusesCount rows Memory = ⊥
RefusesCount rows BadOption = IsBadCount (first_of (codes "ports") rows)
RefusesCount rows (Parse text) = ⊥

-- a subcommand with the options of a node: `[--image FILE] [--maps LIST] [--ports N]`
abbrev pub with_node_options : App → App
with_node_options app =
    with_rule (with_rule (with_rule app (option_rule (codes "image"))) (option_rule (codes "maps")))
    (option_rule (codes "ports"))

-- the name of the file of the image that judges, if the words of a node have one
abbrev pub image_name : NodeWords → Option (List ℕ)
image_name node = option_map string_bytes node.image

-- the words are those of a node with these matches
abbrev pub GivesNode : List Row → NodeWords → Type 0
GivesNode rows node = (first_of (codes "image") rows ≡ image_name node)
    × GivesSizes (first_of (codes "maps") rows) node.sizes × GivesPorts (first_of (codes "ports") rows) node.ports

-- matches with a list of maps or a number of ports that is none
abbrev pub SpoilsNode : List Row → Type 0
SpoilsNode rows = IsBadList (first_of (codes "maps") rows) ⊎ IsBadCount (first_of (codes "ports") rows)

-- such matches, or memory was refused
abbrev pub RefusesNode : List Row → UsageFault → Type 0
RefusesNode rows Memory = Unit {0}
RefusesNode rows BadOption = SpoilsNode rows
RefusesNode rows (Parse text) = ⊥
