-- The numbers by which outputs name what is wrong with a frame.
use Rattle.std.specs.Prelude.{ℕ, ◌==◌, if◌then◌else◌, Option, Some, None}
use Rattle.frames.specs.declared.faults.FrameFault.{FrameFault}
use Rattle.frames.specs.declared.faults.FrameFault.TheVariants.{ForBridge, CutOff}

-- the number of a fault
abbrev pub frame_fault_code : FrameFault → ℕ
frame_fault_code ForBridge = 1
frame_fault_code CutOff = 2

-- the fault of a number, if it is the number of one
abbrev pub frame_fault_of_code : ℕ → Option FrameFault
frame_fault_of_code code = if code == 1 then Some ForBridge else (if code == 2 then Some CutOff else None)
