-- A program and packets that fit the worked example of the law of all ports, byte by byte.
use Rattle.std.specs.Prelude.{ℕ, pos, List, [], ◌∷◌, Some, None}
use base.Stored.{Gv}
use Rattle.spw.specs.declared.packets.End.TheVariants.{Eop}
use Rattle.spw.specs.Cargo.{Cargo}
use Rattle.rmap.specs.declared.status.Status.TheVariants.{InvalidLogicalAddress}
use Rattle.bpf_insn.specs.declared.insn.Insn.TheVariants.{Alu, Exit}
use Rattle.bpf_parts.specs.declared.operation.AluOp.TheVariants.{Mov}
use Rattle.bpf_parts.specs.declared.operation.Operand.TheVariants.{Immediate}
use Rattle.bpf_parts.specs.declared.operation.Width.TheVariants.{Bits64}
use Rattle.bpf.specs.Program.{Program, program}
use Rattle.bpf.specs.declared.version.Version.TheVariants.{One}
use Rattle.machine.specs.Sizes.{Maps}
use Rattle.bver.specs.Justified.{AcceptedValue}
use Rattle.lawful.specs.Sample.{HasSampleHistory, IsSample, Sample, WrongOnesAreRefused}
use Rattle.lawful.specs.Sample.{sample_accounts, sample_list, sample_node}
use Rattle.lawful.specs.Together.{AreServedTogether}

-- a packet that ends as it should
abbrev pub packet : List ℕ → Cargo
packet bytes = record { bytes = bytes; end = Eop }

-- no maps
abbrev pub sample_maps : Maps
sample_maps = record { cells = []; kinds = [] }

-- `mov r0, 0; exit`, in version 1 of the format and with a budget of eight steps
abbrev pub yes_program : Program
yes_program = program One 8 [] (Some (Alu Mov Bits64 0 (Immediate (pos 0))) ∷ Some Exit ∷ [])

-- it is accepted for a node without maps, and accesses no memory
abbrev pub yes_accepted : AcceptedValue
yes_accepted = record { program = yes_program; sizes = sample_maps; regions = None ∷ None ∷ [] }

-- a write of the program's image to the beginning of staging, with reply and increment. First comes its header, then
-- the 16 bytes of the image's header, then its two instructions and the data CRC
abbrev pub stage_bytes : List ℕ
stage_bytes =
    254 ∷ 1 ∷ 108 ∷ 0 ∷ 103 ∷ 0 ∷ 0 ∷ 255 ∷ 0 ∷ 0 ∷ 0 ∷ 0 ∷ 0 ∷ 0 ∷ 32 ∷ 53
    ∷ 66 ∷ 80 ∷ 70 ∷ 65 ∷ 1 ∷ 0 ∷ 2 ∷ 0 ∷ 8 ∷ 0 ∷ 0 ∷ 0 ∷ 0 ∷ 0 ∷ 0 ∷ 0
    ∷ 183 ∷ 0 ∷ 0 ∷ 0 ∷ 0 ∷ 0 ∷ 0 ∷ 0 ∷ 149 ∷ 0 ∷ 0 ∷ 0 ∷ 0 ∷ 0 ∷ 0 ∷ 0 ∷ 170 ∷ []

-- the control write that loads those 32 bytes into the slot of reads
abbrev pub control_write_bytes : List ℕ
control_write_bytes = 254 ∷ 1 ∷ 108 ∷ 0 ∷ 103 ∷ 0 ∷ 0 ∷ 255 ∷ 0 ∷ 1 ∷ 0 ∷ 0 ∷ 0 ∷ 0 ∷ 4 ∷ 61 ∷ 0 ∷ 0 ∷ 0 ∷ 32 ∷ 56 ∷ []

-- a read of the first four bytes of the bank
abbrev pub read_bytes : List ℕ
read_bytes = 254 ∷ 1 ∷ 76 ∷ 0 ∷ 103 ∷ 0 ∷ 0 ∷ 0 ∷ 160 ∷ 0 ∷ 0 ∷ 0 ∷ 0 ∷ 0 ∷ 4 ∷ 254 ∷ []

-- the same with another target logical address
abbrev pub wrong_bytes : List ℕ
wrong_bytes = 1 ∷ 1 ∷ 76 ∷ 0 ∷ 103 ∷ 0 ∷ 0 ∷ 0 ∷ 160 ∷ 0 ∷ 0 ∷ 0 ∷ 0 ∷ 0 ∷ 4 ∷ 247 ∷ []

-- all of it, for any name of the cells; a packet to another address is answered so
abbrev pub this_sample : Gv → Sample
this_sample home = record {
  program = yes_accepted;
  home = home;
  stage = packet stage_bytes;
  load = packet control_write_bytes;
  read = packet read_bytes;
  wrong = packet wrong_bytes;
  status = InvalidLogicalAddress;
}

-- a program and packets fit the example, and have what it says of them
pub record IsLawfulSample (x : Sample) : Type 0 where
  pub is : IsSample x
  pub together : AreServedTogether (sample_node x) (sample_accounts x) (sample_list x)
  pub history : HasSampleHistory x
  pub wrong : WrongOnesAreRefused x

-- the ones given here do
abbrev pub ThisSampleIsLawful : Type 0
ThisSampleIsLawful = (home : Gv) → IsLawfulSample (this_sample home)
