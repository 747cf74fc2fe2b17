-- A node as a header of C.
use Rattle.std.specs.Prelude.{◌≡◌, ◌-◌, ◌%◌, ◌+◌, ◌==◌, ◌||◌, ℕ, Bool, true, if◌then◌else◌, List, [], ◌∷◌, ◌++◌, length, Option, None, Some, codes, decimal, replicate, slice_get}
use Rattle.std.specs.Fmt.{digits}
use Rattle.bpf.specs.Program.{image_bytes}
use Rattle.bver.specs.Justified.{AcceptedValue}
use Rattle.machine.specs.Sizes.{Maps}
use Rattle.machine.specs.declared.kinds.MapKind.{MapKind}
use Rattle.machine.specs.declared.kinds.MapKind.TheVariants.{Counter, Peak}
use Rattle.node_parts.specs.declared.config.BankConfig.{BankConfig}
use Rattle.policy_table.specs.declared.rules.Quota.{Quota}
use Rattle.job_config.specs.OwnNodes.{OwnNodeValue}
use Rattle.job_node_file.specs.Pools.{IsPool}
use Rattle.job_node_file.specs.Quotas.{header_end}

-- a number in this many hexadecimal digits, in upper case
abbrev pub hex : (width value : ℕ) → List ℕ
hex width value = replicate (width - length (digits 16 true value)) 48 ++ digits 16 true value

-- what is printed of each item, which has a place
abbrev pub each_from : {X : Type 0} → (text : ℕ → X → List ℕ) → (place : ℕ) → List X → List ℕ
each_from text place [] = []
each_from text place (item ∷ items) = text place item ++ each_from text (place + 1) items

-- ---- bytes

-- what comes after a byte: a line feed if its row ends, and else a space
abbrev pub byte_separator : (ends : Bool) → List ℕ
byte_separator ends = if ends then codes "\n" else codes " "

-- a row ends after this byte: it is the 16th, or the last of all
abbrev pub ends_row : (count place : ℕ) → Bool
ends_row count place = (place % 16 == 15) || (place + 1 == count)

-- the byte at a place, of an array with this count of bytes
abbrev pub byte_text : (count place byte : ℕ) → List ℕ
byte_text count place byte = codes "0x" ++ hex 2 byte ++ codes "," ++ byte_separator (ends_row count place)

-- the bytes of an array, and its end; no bytes are a zero
abbrev pub c_bytes : List ℕ → List ℕ
c_bytes [] = codes "0\n};\n"
c_bytes (byte ∷ bytes) = each_from (byte_text (length (byte ∷ bytes))) 0 (byte ∷ bytes) ++ codes "};\n"

-- ---- rows

-- the address, and how many ports, banks, maps and publishes there are
unfoldable pub numbers_of : (address ports banks maps publishes : ℕ) → List ℕ
numbers_of address ports banks maps publishes =
    codes "#define NODE_ADDRESS 0x"
    ++ (hex 2 address ++ (codes "\n#define NODE_PORTS "
    ++ (decimal ports ++ (codes "\n#define NODE_BANKS "
    ++ (decimal banks ++ (codes "\n#define NODE_MAPS "
    ++ (decimal maps ++ (codes "\n#define NODE_PUBLISHES " ++ (decimal publishes ++ codes "\n")))))))))

-- the address of a node, and how many ports, banks, maps and publishes it has
abbrev pub numbers_text : OwnNodeValue → List ℕ
numbers_text own = numbers_of own.address own.ports (length own.banks) (length own.sizes.cells) (length own.publishes)

-- a bank: its base, its size, and what its journal has room for
abbrev pub bank_row : BankConfig → List ℕ
bank_row bank =
    codes "  {0x" ++ hex 8 bank.base ++ codes "u, " ++ decimal bank.size ++ codes "u, " ++ decimal bank.room ++ codes "u},"
    ++ 10 ∷ []

-- 1 for a map that keeps the greatest numbers
abbrev pub is_peak : Option MapKind → ℕ
is_peak None = 0
is_peak (Some Counter) = 0
is_peak (Some Peak) = 1

-- a map: its cells, and its kind
abbrev pub map_row : (cells : ℕ) → Option MapKind → List ℕ
map_row cells kind = codes "  {" ++ decimal cells ++ codes ", " ++ decimal (is_peak kind) ++ codes "}," ++ 10 ∷ []

-- the map of a place, which has this number of cells
abbrev pub map_cells : Maps → (place cells : ℕ) → List ℕ
map_cells sizes place cells = map_row cells (slice_get sizes.kinds place)

-- the rows of maps; one without cells if there is none
abbrev pub rows_or : (none some : List ℕ) → (count : ℕ) → List ℕ
rows_or none some count = if count == 0 then none else some

-- the rows of the maps of a node; one without cells if it has none
abbrev pub map_rows : Maps → List ℕ
map_rows sizes = rows_or (codes "  {0, 0},\n") (each_from (map_cells sizes) 0 sizes.cells) (length sizes.cells)

-- the line before the bytes that the bank of a place begins with
unfoldable pub content_line : (place : ℕ) → List ℕ
content_line place = codes "\nstatic const uint8_t node_contents_" ++ (decimal place ++ codes "[] = {\n")

-- the array of the bytes that the bank of a place begins with
unfoldable pub content_array : (place : ℕ) → List ℕ → List ℕ
content_array place bytes = content_line place ++ c_bytes bytes

-- the row of these bytes: their array, and how many they are
abbrev pub content_row : (place : ℕ) → List ℕ → List ℕ
content_row place bytes = codes "  {node_contents_" ++ decimal place ++ codes ", " ++ decimal (length bytes) ++ codes "}," ++ 10 ∷ []

-- the line before the image of the program that is published at a place
unfoldable pub publish_line : (place : ℕ) → List ℕ
publish_line place = codes "\nstatic const uint8_t node_publish_" ++ (decimal place ++ codes "[] = {\n")

-- the array of the image of the program that is published at a place
unfoldable pub image_array : (place : ℕ) → AcceptedValue → List ℕ
image_array place program = publish_line place ++ c_bytes (image_bytes program.program)

-- the image of a publish, at its place
abbrev pub publish_array : (place : ℕ) → ℕ × AcceptedValue → List ℕ
publish_array place publish = image_array place publish.1

-- the row of an image: its slot, and how many bytes it has
unfoldable pub slot_row : (place slot count : ℕ) → List ℕ
slot_row place slot count =
    codes "  {"
    ++ (decimal slot ++ (codes ", node_publish_" ++ (decimal place ++ (codes ", " ++ (decimal count ++ codes "},\n")))))

-- the row of a program that is published in a slot, at its place
abbrev pub program_row : (place slot : ℕ) → AcceptedValue → List ℕ
program_row place slot program = slot_row place slot (length (image_bytes program.program))

-- the row of a publish, at its place
abbrev pub publish_row : (place : ℕ) → ℕ × AcceptedValue → List ℕ
publish_row place publish = program_row place publish.0 publish.1

-- the rows of publishes; one of zeros if there is none
abbrev pub publish_rows : List (ℕ × AcceptedValue) → List ℕ
publish_rows [] = codes "  {0, 0, 0},\n"
publish_rows (publish ∷ publishes) = each_from publish_row 0 (publish ∷ publishes)

-- ---- the lines before rows

-- what is before all else
unfoldable pub head_text : List ℕ
head_text =
    codes "/* Made by rmapctl node --c. */\n#ifndef NODE_FILE_H\n#define NODE_FILE_H\n\n#include <sandbarstove.h>\n\n"

-- the line before the banks
unfoldable pub banks_head : List ℕ
banks_head = codes "\nstatic const struct sandbar_bank node_banks[] = {\n"

-- the end of the banks, and the line before the maps
unfoldable pub maps_head : List ℕ
maps_head = codes "};\n\nstatic const struct sandbar_map node_maps[] = {\n"

-- the end of the maps, and the line before the image
unfoldable pub image_head : List ℕ
image_head = codes "};\n\nstatic const uint8_t node_image[] = {\n"

-- the line before the rows of what banks begin with
unfoldable pub contents_head : List ℕ
contents_head = codes "\nstatic const struct { const uint8_t *bytes; size_t length; } node_contents[] = {\n"

-- the line before the rows of publishes
unfoldable pub publishes_head : List ℕ
publishes_head = codes "\nstatic const struct { uint8_t slot; const uint8_t *image; size_t length; } node_publishes[] = {\n"

-- ---- the whole

-- the numbers, the banks and the maps of a node
unfoldable pub front_text : OwnNodeValue → List ℕ
front_text own =
    numbers_text own ++ banks_head ++ each_from (λ place bank. bank_row bank) 0 own.banks ++ maps_head ++ map_rows own.sizes

-- the bytes that banks begin with, and a row for each bank
unfoldable pub contents_text : List (List ℕ) → List ℕ
contents_text contents = each_from content_array 0 contents ++ contents_head ++ each_from content_row 0 contents ++ codes "};\n"

-- the images that are published, and a row for each publish
unfoldable pub publishes_text : List (ℕ × AcceptedValue) → List ℕ
publishes_text publishes = each_from publish_array 0 publishes ++ publishes_head ++ publish_rows publishes ++ codes "};\n"

-- the image that judges at first, what banks begin with, and what is published
unfoldable pub bytes_text : OwnNodeValue → (image : List ℕ) → List ℕ
bytes_text own image = image_head ++ c_bytes image ++ contents_text own.contents ++ publishes_text own.publishes

-- a text is the header of a node, with this program in all slots at first, the bytes of its pool, and these quotas
pub record IsHeader (own : OwnNodeValue) (program : AcceptedValue) (quotas : Option (List Quota)) (text : List ℕ) : Type 0 where
  pub pool : ℕ
  pub is_pool : IsPool own program pool
  pub is : text ≡ head_text ++ front_text own ++ bytes_text own (image_bytes program.program) ++ header_end pool quotas
