-- The lines that are reported of a frame, by its number, which is counted from 1.
use Rattle.std.specs.Prelude.{ℕ, ◌≡◌, ◌⊎◌, ◌+◌, ◌-◌, ◌^◌, List, [], ◌∷◌, ◌++◌, Option, codes, decimal, min}
use Rattle.std.specs.Io.KnownBytes.{Appends}
use Rattle.frames.specs.Faults.{frame_fault_code}
use Rattle.frames.specs.declared.faults.FrameFault.{FrameFault}
use Rattle.node_parts.specs.declared.served.Served.{Served}
use Rattle.node_parts.specs.declared.served.Served.TheVariants.{Stopped, Unread, Done, Window}
use Rattle.node_parts.specs.declared.stop.Stop.TheVariants.{Discarded, Answered}
use Rattle.rmap.specs.Codes.{discard_code}
use Rattle.rmap.specs.declared.discard.Discard.{Discard}

-- `frame K fault C`
abbrev pub frame_fault_line : (frame : ℕ) → FrameFault → List ℕ
frame_fault_line frame fault =
    codes "frame " ++ decimal frame ++ codes " fault " ++ decimal (frame_fault_code fault) ++ 10 ∷ []

-- the words before the number of a discard
abbrev pub discard_words : (frame : ℕ) → List ℕ
discard_words frame = codes "frame " ++ decimal frame ++ codes " discard "

-- `frame K discard C`
abbrev pub frame_discard_line : (frame : ℕ) → Discard → List ℕ
frame_discard_line frame discard = discard_words frame ++ decimal (discard_code discard) ++ 10 ∷ []

-- what is reported of what became of a packet: that it was discarded, if it was
abbrev pub served_text : (frame : ℕ) → Served → List ℕ
served_text frame (Stopped (Discarded discard)) = frame_discard_line frame discard
served_text frame (Stopped (Answered status)) = []
served_text frame Unread = []
served_text frame (Done applied) = []
served_text frame (Window status) = []

-- a text comes after what was reported before, or it is counted as one more that could not be reported. Then the talk
-- ends with status 1
abbrev pub IsTextReported : (old new : Option (List ℕ)) → List ℕ → (before after : ℕ) → Type 0
IsTextReported old new text before after = (Appends old new text × (after ≡ before)) ⊎ (after ≡ min (before + 1) (2 ^ 64 - 1))
