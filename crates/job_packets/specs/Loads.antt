-- The packets of a load, and of loads that follow each other, each as its packet line.
use Rattle.std.specs.Prelude.{◌*◌, ◌+◌, nat_lt, ℕ, if◌then◌else◌, List, [], ◌∷◌, ◌++◌, length}
use Rattle.rmap.specs.Reply.{with_crc}
use Rattle.rmap.specs.declared.checks.TheConstants.{MAX_DATA}
use Rattle.initiator.specs.Loads.{control_bytes_of, control_request, further, part_count, part_of, result_request, stage_request}
use Rattle.job_packets.specs.Requests.{request_line_of}
use Rattle.job_packets.specs.declared.packet_options.HeaderWords.{HeaderWords}

-- the line of the write of a part to the staging, if the image has such a part; the load begins with this transaction
-- identifier
unfoldable pub part_text : HeaderWords → (transaction : ℕ) → (image : List ℕ) → (number : ℕ) → List ℕ
part_text h transaction image number =
    if nat_lt (MAX_DATA * number) (length image)
    then request_line_of h (stage_request transaction (part_of image number) number) (with_crc (part_of image number))
    else []

-- the lines of a load after others: those of the image's four parts, of the control write, and of the read
abbrev pub with_load : (front : List ℕ) → HeaderWords → (transaction slot : ℕ) → (image : List ℕ) → List ℕ
with_load front h transaction slot image =
    front ++ part_text h transaction image 0 ++ part_text h transaction image 1 ++ part_text h transaction image 2
    ++ part_text h transaction image 3
    ++ request_line_of h (control_request transaction image) (with_crc (control_bytes_of slot image))
    ++ request_line_of h (result_request transaction image) []

-- the transaction identifier after those of a load: it has one for each part, the control write and the read
abbrev pub id_after_load : (transaction : ℕ) → (image : List ℕ) → ℕ
id_after_load transaction image = further transaction (part_count image + 2)

-- the lines of the loads of an image into these slots after others, each with the transaction identifiers after those
-- of the load before it
abbrev pub with_loads : (front : List ℕ) → HeaderWords → (transaction : ℕ) → (slots : List ℕ) → (image : List ℕ) → List ℕ
with_loads front h transaction [] image = front
with_loads front h transaction (slot ∷ slots) image =
    with_loads (with_load front h transaction slot image) h (id_after_load transaction image) slots image
