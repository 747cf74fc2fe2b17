-- The job `trace`: its words, and what it prints of a packet.
use Rattle.std.specs.Prelude.{ℕ, List, [], ◌∷◌, ◌++◌, codes, decimal}
use Rattle.clap.specs.Simple.{App}
use Rattle.bpf.specs.Program.{Program}
use Rattle.machine.specs.State.{entry_state}
use Rattle.sched.specs.History.{Open}
use Rattle.sched.specs.Looking.{Node, seen_header_in, program_of, slot_of_packet}
use Rattle.job_config.specs.NodeLines.{node_lines_app}
use Rattle.job_trace.specs.Runs.{lines_within}

-- `trace LINES [--image FILE] [--maps LIST] [--ports N]`, or `trace LINES --node FILE`
abbrev pub trace_app : App
trace_app = node_lines_app (codes "trace")

-- the line of a command that is taken
abbrev pub taken_line : (port slot generation : ℕ) → List ℕ
taken_line port slot generation =
    decimal port ++ codes " taken slot " ++ decimal slot ++ codes " generation " ++ decimal generation ++ 10 ∷ []

-- the lines of the run of a program that judges an open command of a port, with the answers that its helpers had
abbrev pub run_lines_of : Program → Node → (port : ℕ) → Open → List ℕ
run_lines_of program n port o =
    lines_within program (seen_header_in o.packet) n.sizes program.budget program.budget 0 (entry_state port) o.answers

-- the same of the program that was published for its slot when it was taken
abbrev pub run_lines : Node → (port : ℕ) → Open → List ℕ
run_lines n port o = run_lines_of (program_of n o) n port o

-- what is printed of an open command of a port, up to its reply
abbrev pub command_lines : Node → (port : ℕ) → Open → List ℕ
command_lines n port o = taken_line port (slot_of_packet n o.packet) o.generation ++ run_lines n port o
