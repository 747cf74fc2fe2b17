-- The words for what becomes of a load.
use Rattle.std.specs.Prelude.{ℕ, ◌+◌, ◌==◌, Bool, false, if◌then◌else◌, List, [], ◌∷◌, ◌++◌, Option, Some, None, codes, decimal, drop, length, take}
use Rattle.node_parts.specs.declared.served.Served.{Served}
use Rattle.node_parts.specs.declared.served.Served.TheVariants.{Stopped, Unread, Done, Window}
use Rattle.node_parts.specs.declared.stop.Stop.TheVariants.{Answered, Discarded}
use Rattle.rmap.specs.BootRecords.{load_result_of}
use Rattle.rmap.specs.Codes.{status_code}
use Rattle.rmap.specs.declared.boot.TheConstants.{LOAD_RESULT_SIZE}
use Rattle.rmap.specs.declared.boot_records.LoadResult.{LoadResult}
use Rattle.rmap.specs.declared.status.Status.{Status}
use Rattle.rmap.specs.declared.status.Status.TheVariants.{Success, GeneralError, UnusedCode, InvalidKey}
use Rattle.rmap.specs.declared.status.Status.TheVariants.{InvalidDataCrc, EarlyEndOfPacket, TooMuchData}
use Rattle.rmap.specs.declared.status.Status.TheVariants.{ErrorEndOfPacket, VerifyBufferOverrun, NotAuthorised}
use Rattle.rmap.specs.declared.status.Status.TheVariants.{RmwDataLength, InvalidLogicalAddress}
use Rattle.job_rehearse.specs.declared.steps.LoadStep.{LoadStep}
use Rattle.job_rehearse.specs.declared.steps.LoadStep.TheVariants.{Control, Part, Result}

-- what a packet of a load is
abbrev pub step_words : LoadStep → List ℕ
step_words Part = codes "write of the image"
step_words Control = codes "load"
step_words Result = codes "read of the load result"

-- the words for a status (ECSS-E-ST-50-52C, error and status codes)
abbrev pub status_words : Status → List ℕ
status_words Success = codes "success"
status_words GeneralError = codes "general error"
status_words UnusedCode = codes "unused packet type or command code"
status_words InvalidKey = codes "invalid key"
status_words InvalidDataCrc = codes "invalid data CRC"
status_words EarlyEndOfPacket = codes "early EOP"
status_words TooMuchData = codes "too much data"
status_words ErrorEndOfPacket = codes "EEP"
status_words VerifyBufferOverrun = codes "verify buffer overrun"
status_words NotAuthorised = codes "not implemented or not authorised"
status_words RmwDataLength = codes "RMW data length error"
status_words InvalidLogicalAddress = codes "invalid target logical address"

-- with which status a packet ended, if it did with one
abbrev pub status_in : Served → Option Status
status_in (Stopped (Discarded discard)) = None
status_in (Stopped (Answered status)) = Some status
status_in Unread = None
status_in (Done applied) = Some applied.status
status_in (Window status) = Some status

-- a packet ended with status 0
abbrev pub is_step_success : Option Status → Bool
is_step_success None = false
is_step_success (Some status) = status_code status == 0

-- how a packet ended
abbrev pub outcome_text : Option Status → List ℕ
outcome_text None = codes "no reply"
outcome_text (Some status) = codes "status " ++ decimal (status_code status) ++ codes " " ++ status_words status

-- the load result that a reply has, if it has one. If the reply has a header of twelve bytes, the eight of a load
-- result and one of a CRC, it is what those eight are (ECSS-E-ST-50-52C, read reply format)
abbrev pub load_result_in : (reply : List ℕ) → Option LoadResult
load_result_in reply =
    if length reply == 12 + LOAD_RESULT_SIZE + 1 then load_result_of (take LOAD_RESULT_SIZE (drop 12 reply)) else None

-- a load result: the generation of what was loaded, or why it was not
unfoldable pub result_words : LoadResult → List ℕ
result_words r =
    if r.generation == 0
    then (if r.code == 0
    then codes ", nothing was loaded"
    else codes ", load fault " ++ decimal r.code ++ codes " slot " ++ decimal r.place)
    else codes ", generation " ++ decimal r.generation

-- the same, if there is one
abbrev pub result_text : Option LoadResult → List ℕ
result_text None = []
result_text (Some r) = result_words r

-- the line of a packet of a load: what it is, and how it ended
abbrev pub step_line : LoadStep → Served → (reply : List ℕ) → List ℕ
step_line step served reply =
    codes "    " ++ step_words step ++ codes ": " ++ outcome_text (status_in served)
    ++ result_text (load_result_in reply) ++ 10 ∷ []
