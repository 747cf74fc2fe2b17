-- What a program says of the writes of a load, in turn: the program that judges in slot 3, on cells that began so.
use Rattle.std.specs.Prelude.{◌≡◌, ◌≤◌, ◌<◌, ◌*◌, ◌==◌, ◌&&◌, ◌++◌, ℕ, Bool, true, if◌then◌else◌, List, [], length}
use Rattle.bver.specs.Justified.{AcceptedValue}
use Rattle.machine.specs.declared.calls.Call.{Call}
use Rattle.spw.specs.Cargo.{Cargo}
use Rattle.spw.specs.declared.packets.End.TheVariants.{Eop}
use Rattle.rmap.specs.Command.{CommandValue, bytes_of, command_of}
use Rattle.rmap.specs.declared.checks.TheConstants.{MAX_DATA}
use Rattle.initiator.specs.Loads.{control_request, part_of, stage_request}
use Rattle.initiator.specs.Writing.{command_with}
use Rattle.initiator.specs.declared.requests.Request.{Request}
use Rattle.node_parts.specs.Steps.{IsVerdictOn}
use Rattle.job_packets.specs.Requests.{fields_with}
use Rattle.job_packets.specs.declared.packet_options.HeaderWords.{HeaderWords}
use Rattle.job_rehearse.specs.Loaders.{IsHeaderOf}
use Rattle.job_rehearse.specs.Starts.{AreAnsweredFrom}
use Rattle.job_rehearse.specs.declared.loaders.LoadSender.{LoadSender}
use Rattle.job_rehearse.specs.declared.passing.Passing.{Passing}
use Rattle.job_rehearse.specs.declared.passing.Passing.TheVariants.{Always, UntilSpent, OnceSpent, Never}
use Rattle.job_rehearse.specs.declared.starts.Start.{Start}
use Rattle.job_rehearse.specs.declared.starts.Start.TheVariants.{Fresh, Spent}

-- the program had a run on the header of the command, at that port, that ends with the verdict. After it the calls so
-- far are longer by those of the run
pub record HasAnswered (judge : AcceptedValue) (port : ℕ) (c : CommandValue) (verdict : ℕ) (before after : List Call) : Type 0
  where
    pub calls : List Call
    pub run : IsVerdictOn judge port calls c verdict
    pub longer : after ≡ before ++ calls

-- the packet of a command that is requested, without a body: a program sees only the header
abbrev pub asked_packet : HeaderWords → Request → Cargo
asked_packet header r = record { bytes = bytes_of (command_with (fields_with header r) []); end = Eop }

-- the program's verdict on a command that is requested by the loader
pub record IsAnswer (judge : AcceptedValue) (loader : LoadSender) (r : Request) (verdict : ℕ) (before after : List Call) : Type 0
  where
    pub header : HeaderWords
    pub is_header : IsHeaderOf loader header
    pub answered : HasAnswered judge loader.port (command_of (asked_packet header r)) verdict before after

-- whether the program lets it pass: its verdict is 0
pub record LetsPacketPass (judge : AcceptedValue) (loader : LoadSender) (r : Request) (passes : Bool) (before after : List Call) : Type 0
  where
    pub verdict : ℕ
    pub answer : IsAnswer judge loader r verdict before after
    pub passes_is : passes ≡ (verdict == 0)

-- whether it lets the write of the part of that number pass, if the image has such a part
pub record LetsPart (judge : AcceptedValue) (loader : LoadSender) (image : List ℕ) (number : ℕ) (passes : Bool)
    (before after : List Call) : Type 0 where
  pub there : MAX_DATA * number < length image
      → LetsPacketPass judge loader (stage_request 0 (part_of image number) number) passes before after
  pub absent : length image ≤ MAX_DATA * number → (passes ≡ true) × (after ≡ before)

-- whether it lets each write of a load of the image pass, in turn, each after the calls of those before it: those of
-- its parts, and the control write. The read of the load result comes after them, and a load whose result may not be
-- read is a load
pub record LetsWrites (judge : AcceptedValue) (loader : LoadSender) (image : List ℕ) (passes : Bool) (before after : List Call) :
    Type 0 where
  pub one : List Call
  pub two : List Call
  pub three : List Call
  pub four : List Call
  pub first : Bool
  pub second : Bool
  pub third : Bool
  pub fourth : Bool
  pub control : Bool
  pub first_is : LetsPart judge loader image 0 first before one
  pub second_is : LetsPart judge loader image 1 second one two
  pub third_is : LetsPart judge loader image 2 third two three
  pub fourth_is : LetsPart judge loader image 3 fourth three four
  pub control_is : LetsPacketPass judge loader (control_request 0 image) control four after
  pub passes_is : passes ≡ (first && second && third && fourth && control)

-- whether it lets the whole load pass on cells that began so
pub record LetsLoad (start : Start) (judge : AcceptedValue) (loader : LoadSender) (image : List ℕ) (passes : Bool) : Type 0 where
  pub calls : List Call
  pub writes : LetsWrites judge loader image passes [] calls
  pub cells : AreAnsweredFrom start judge.sizes calls

-- the answer of two loads: one on cells that nobody asked, and one on cells that are past every quota
abbrev pub passing_of : (fresh spent : Bool) → Passing
passing_of fresh spent =
    if fresh then (if spent then Always else UntilSpent) else (if spent then OnceSpent else Never)

-- whether it lets the loader's load of the image pass, of these two
pub record IsPassing (judge : AcceptedValue) (loader : LoadSender) (image : List ℕ) (passing : Passing) : Type 0 where
  pub fresh : Bool
  pub spent : Bool
  pub fresh_is : LetsLoad Fresh judge loader image fresh
  pub spent_is : LetsLoad Spent judge loader image spent
  pub passing_is : passing ≡ passing_of fresh spent
