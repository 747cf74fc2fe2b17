-- The bytes that are given fit the worked example. All is computed except the take from a staging of 16,384 bytes.
use Rattle.std.proofs.Common.{◌≡◌, ◌+◌, ℕ, zero, suc, length, map, take, replicate, Some, None, refl, ◌∙◌, arith}
use Rattle.std.specs.List.{range_with_len}
use Rattle.std.proofs.lemmas.List.{length-replicate}
use Rattle.std.proofs.lemmas.List.FromFn.{take-map-range_with_len}
use base.Stored.{Gv}
use Rattle.rcrc.specs.Crc.{shifts}
use Rattle.rmap.specs.declared.places.Place.TheVariants.{Bank, Staging, Control}
use Rattle.rmap.specs.BootRecords.{control_of}
use Rattle.rmap.specs.Checks.{data_of, header_line}
use Rattle.rmap.specs.Command.{command_of, discard_of}
use Rattle.rmap.specs.Windows.{LiesInBank}
use Rattle.bpf.specs.Program.{image_bytes}
use Rattle.bpf_insn.specs.Spelling.{slot_bytes_of}
use Rattle.bank.specs.Admission.{IsPlacedBy}
use Rattle.bank.specs.Answer.{judged_line}
use Rattle.bank.specs.Effect.{byte_after_data, memory_at}
use Rattle.node_programs.specs.declared.staging.TheConstants.{STAGING_BYTES}
use Rattle.node_parts.specs.Loads.{IsPrepared}
use Rattle.sched.specs.Looking.{windows_in}
use Rattle.lawful.specs.Sample.{IsSample, Sample, SampleIsLawful, sample_node, sample_staging}
use Rattle.test_laws.proofs.SampleProgram.{is_program, justified, runs, stands}
use Rattle.test_laws.specs.Sample.{sample_maps, yes_program, packet, stage_bytes, control_write_bytes, read_bytes, wrong_bytes, this_sample, ThisSampleIsLawful}

-- ---- the packets

stage_command : discard_of stage_bytes ≡ None
unfolding shifts
stage_command = refl

load_command : discard_of control_write_bytes ≡ None
unfolding shifts
load_command = refl

read_command : discard_of read_bytes ≡ None
unfolding shifts
read_command = refl

wrong_command : discard_of wrong_bytes ≡ None
unfolding shifts
wrong_command = refl

load_judged : judged_line (command_of (packet control_write_bytes)) 0 ≡ None
unfolding shifts
load_judged = refl

read_judged : judged_line (command_of (packet read_bytes)) 0 ≡ None
read_judged = refl

-- ---- what was staged

-- a byte of the staging after the write
abbrev staged_byte : ℕ → ℕ
staged_byte k = byte_after_data (memory_at 0 (replicate STAGING_BYTES 0)) (command_of (packet stage_bytes)) (data_of (command_of (packet stage_bytes))) (0 + k)

many : length (replicate {A = ℕ} STAGING_BYTES 0) ≡ STAGING_BYTES
many = length-replicate {A = ℕ} STAGING_BYTES 0

front : take 32 (map staged_byte (range_with_len 0 (length (replicate {A = ℕ} STAGING_BYTES 0)))) ≡ map staged_byte (range_with_len 0 32)
front = take-map-range_with_len staged_byte 0 (length (replicate {A = ℕ} STAGING_BYTES 0)) 32 (omega (arith, many))

-- its first 32 bytes spell the program
image : map staged_byte (range_with_len 0 32) ≡ image_bytes yes_program
unfolding image_bytes slot_bytes_of
image = refl

-- ---- all of it

module _ (home : Gv) where
  abbrev x : Sample
  x = this_sample home

  stage_placed : IsPlacedBy (windows_in (sample_node x)) x.stage Staging
  stage_placed = record { command = stage_command; allowed = refl; lies = refl; inside = λ k is. absurd (cc is) }

  load_placed : IsPlacedBy (windows_in (sample_node x)) x.load Control
  load_placed = record { command = load_command; allowed = refl; lies = refl; inside = λ k is. absurd (cc is) }

  in_bank : (k : ℕ) → Bank 0 ≡ Bank k → LiesInBank (windows_in (sample_node x)) (command_of x.read) k
  in_bank zero is = record { below = omega arith; range = (2684354560, 16); window = refl; inside = refl }
  in_bank (suc k) is = absurd (cc is)

  read_placed : IsPlacedBy (windows_in (sample_node x)) x.read (Bank 0)
  read_placed = record { command = read_command; allowed = refl; lies = refl; inside = in_bank }

  wrong_line : header_line (command_of x.wrong) (windows_in (sample_node x)) ≡ Some x.status
  wrong_line = refl

  prepared : IsPrepared (control_of (command_of x.load).body) (sample_staging x).bytes x.program.sizes 0 x.program
  unfolding shifts
  prepared = record {
    control_is_right = refl;
    slot_is = refl;
    few = omega arith;
    is_program = is_program;
    spelled = front ∙ image;
    justified = justified sample_maps;
    sizes_are = refl;
  }

pub is_sample : (home : Gv) → IsSample (this_sample home)
is_sample home = record {
  justified = justified sample_maps;
  runs = runs;
  stands = stands;
  stage = stage_placed home;
  load = load_placed home;
  load_line = load_judged;
  prepared = prepared home;
  read = read_placed home;
  read_kind = refl;
  read_line = read_judged;
  wrong = wrong_command;
  wrong_line = wrong_line home;
}

pub lawful_sample : SampleIsLawful → ThisSampleIsLawful
lawful_sample law home =
    let reported = law (this_sample home) (is_sample home) in
    record { is = is_sample home; together = reported.0; history = reported.1; wrong = reported.2 }
