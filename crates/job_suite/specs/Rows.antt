-- What a packet of a row must meet, and how a row is named.
use Rattle.std.specs.Prelude.{ℕ, ◌==◌, Bool, true, false, ◌||◌, if◌then◌else◌, List, [], ◌∷◌, codes, length, nat_eq}
use Rattle.std.specs.List.{starts_with}
use Rattle.rmap.specs.declared.status.Status.TheVariants.{ErrorEndOfPacket, EarlyEndOfPacket, TooMuchData, InvalidDataCrc}
use Rattle.job_suite.specs.declared.checks.Check.TheVariants as checks
use Rattle.job_suite.specs.declared.rows.SuiteRow.{SuiteRow}
use Rattle.job_suite.specs.declared.rows.SuiteRow.TheVariants as rows
use Rattle.job_suite.specs.declared.rows.Wanted.{Wanted}
use Rattle.job_suite.specs.declared.rows.Wanted.TheVariants as wanted

-- what a packet of the row must meet: the first line of the order of checks that holds, or what comes of its program and body
abbrev pub wanted_of : SuiteRow → Wanted
wanted_of rows.Short = wanted.Stopped checks.Short
wanted_of rows.ShortBeforeProtocol = wanted.Stopped checks.Short
wanted_of rows.Protocol = wanted.Stopped checks.Protocol
wanted_of rows.ProtocolBeforeReplyType = wanted.Stopped checks.Protocol
wanted_of rows.ProtocolBeforeShort = wanted.Stopped checks.Protocol
wanted_of rows.ReplyType = wanted.Stopped checks.ReplyType
wanted_of rows.ReplyTypeBeforeShort = wanted.Stopped checks.ReplyType
wanted_of rows.ReplyTypeBeforeHeaderCrc = wanted.Stopped checks.ReplyType
wanted_of rows.HeaderCrc = wanted.Stopped checks.HeaderCrc
wanted_of rows.HeaderCrcBeforeUnusedCode = wanted.Stopped checks.HeaderCrc
wanted_of rows.ReservedType = wanted.Stopped checks.UnusedCode
wanted_of rows.UnusedCode = wanted.Stopped checks.UnusedCode
wanted_of rows.UnusedCodeBeforeTargetAddress = wanted.Stopped checks.UnusedCode
wanted_of rows.TargetAddress = wanted.Stopped checks.OtherTarget
wanted_of rows.TargetAddressBeforeRmwLength = wanted.Stopped checks.OtherTarget
wanted_of rows.RmwLength = wanted.Stopped checks.RmwLength
wanted_of rows.RmwLengthBeforeVerifyBuffer = wanted.Stopped checks.RmwLength
wanted_of rows.VerifyBuffer = wanted.Stopped checks.VerifyBuffer
wanted_of rows.VerifyBufferBeforeLength = wanted.Stopped checks.VerifyBuffer
wanted_of rows.Length = wanted.Stopped checks.Length
wanted_of rows.LengthBeforePlace = wanted.Stopped checks.Length
wanted_of rows.Place = wanted.Stopped checks.Place
wanted_of (rows.Program verdict) = wanted.Judged verdict
wanted_of (rows.ProgramBeforeEep verdict) = wanted.Judged verdict
wanted_of rows.Key = wanted.Brought
wanted_of rows.Eep = wanted.Spoilt ErrorEndOfPacket
wanted_of rows.EepBeforeEarlyEop = wanted.Spoilt ErrorEndOfPacket
wanted_of rows.EarlyEop = wanted.Spoilt EarlyEndOfPacket
wanted_of rows.TooMuchData = wanted.Spoilt TooMuchData
wanted_of rows.TooMuchDataBeforeDataCrc = wanted.Spoilt TooMuchData
wanted_of rows.DataCrc = wanted.Spoilt InvalidDataCrc
wanted_of rows.ReplyAddress = wanted.Whole
wanted_of rows.NoReply = wanted.Whole
wanted_of rows.Read = wanted.Whole
wanted_of rows.Write = wanted.Whole
wanted_of rows.VerifiedWrite = wanted.Whole
wanted_of rows.Rmw = wanted.Whole
wanted_of rows.Memory = wanted.Whole
wanted_of rows.BootWindow = wanted.Whole
wanted_of rows.Load = wanted.Whole

-- the name of the row, without the verdict of a row of the program
abbrev pub row_word_of : SuiteRow → List ℕ
row_word_of rows.Short = codes "short"
row_word_of rows.ShortBeforeProtocol = codes "short+protocol"
row_word_of rows.Protocol = codes "protocol"
row_word_of rows.ProtocolBeforeReplyType = codes "protocol+reply-type"
row_word_of rows.ProtocolBeforeShort = codes "protocol+short"
row_word_of rows.ReplyType = codes "reply-type"
row_word_of rows.ReplyTypeBeforeShort = codes "reply-type+short"
row_word_of rows.ReplyTypeBeforeHeaderCrc = codes "reply-type+header-crc"
row_word_of rows.HeaderCrc = codes "header-crc"
row_word_of rows.HeaderCrcBeforeUnusedCode = codes "header-crc+unused-code"
row_word_of rows.ReservedType = codes "reserved-type"
row_word_of rows.UnusedCode = codes "unused-code"
row_word_of rows.UnusedCodeBeforeTargetAddress = codes "unused-code+target-address"
row_word_of rows.TargetAddress = codes "target-address"
row_word_of rows.TargetAddressBeforeRmwLength = codes "target-address+rmw-length"
row_word_of rows.RmwLength = codes "rmw-length"
row_word_of rows.RmwLengthBeforeVerifyBuffer = codes "rmw-length+verify-buffer"
row_word_of rows.VerifyBuffer = codes "verify-buffer"
row_word_of rows.VerifyBufferBeforeLength = codes "verify-buffer+length"
row_word_of rows.Length = codes "length"
row_word_of rows.LengthBeforePlace = codes "length+place"
row_word_of rows.Place = codes "place"
row_word_of (rows.Program verdict) = codes "program"
row_word_of (rows.ProgramBeforeEep verdict) = codes "program"
row_word_of rows.Key = codes "key"
row_word_of rows.Eep = codes "eep"
row_word_of rows.EepBeforeEarlyEop = codes "eep+early-eop"
row_word_of rows.EarlyEop = codes "early-eop"
row_word_of rows.TooMuchData = codes "too-much-data"
row_word_of rows.TooMuchDataBeforeDataCrc = codes "too-much-data+data-crc"
row_word_of rows.DataCrc = codes "data-crc"
row_word_of rows.ReplyAddress = codes "reply-address"
row_word_of rows.NoReply = codes "no-reply"
row_word_of rows.Read = codes "read"
row_word_of rows.Write = codes "write"
row_word_of rows.VerifiedWrite = codes "verified-write"
row_word_of rows.Rmw = codes "rmw"
row_word_of rows.Memory = codes "memory"
row_word_of rows.BootWindow = codes "boot-window"
row_word_of rows.Load = codes "load"

-- all rows; all verdicts of a program are one row
abbrev pub all_rows : List SuiteRow
all_rows =
    rows.Short ∷ rows.ShortBeforeProtocol ∷ rows.Protocol ∷ rows.ProtocolBeforeReplyType ∷ rows.ProtocolBeforeShort ∷
    rows.ReplyType ∷ rows.ReplyTypeBeforeShort ∷ rows.ReplyTypeBeforeHeaderCrc ∷ rows.HeaderCrc ∷
    rows.HeaderCrcBeforeUnusedCode ∷ rows.ReservedType ∷ rows.UnusedCode ∷ rows.UnusedCodeBeforeTargetAddress ∷
    rows.TargetAddress ∷ rows.TargetAddressBeforeRmwLength ∷ rows.RmwLength ∷ rows.RmwLengthBeforeVerifyBuffer ∷
    rows.VerifyBuffer ∷ rows.VerifyBufferBeforeLength ∷ rows.Length ∷ rows.LengthBeforePlace ∷ rows.Place ∷
    rows.Program 0 ∷ rows.Key ∷ rows.Eep ∷ rows.EepBeforeEarlyEop ∷ rows.EarlyEop ∷ rows.TooMuchData ∷
    rows.TooMuchDataBeforeDataCrc ∷ rows.DataCrc ∷ rows.ReplyAddress ∷ rows.NoReply ∷ rows.Read ∷ rows.Write ∷
    rows.VerifiedWrite ∷ rows.Rmw ∷ rows.Memory ∷ rows.BootWindow ∷ rows.Load ∷ []

-- the names of some of these rows begin so, without the verdicts of programs
abbrev pub is_beginning_among : List SuiteRow → (word : List ℕ) → Bool
is_beginning_among [] word = false
is_beginning_among (row ∷ more) word = if starts_with nat_eq (row_word_of row) word then true else is_beginning_among more word

-- the names of some rows may begin so; no letters begin none
abbrev pub is_beginning : (word : List ℕ) → Bool
is_beginning word = if length word == 0 then false else starts_with nat_eq word (codes "program-") || is_beginning_among all_rows word
