-- The line of a packet of a suite.
use Rattle.std.proofs.Common.{◌≡◌, ◌∙◌, ◌++◌, ◌∷◌, ℕ, List, [], ap, ap₂, append_assoc}
use Rattle.std.specs.Fmt.{decimal}
use Rattle.hex.specs.Hex.{encode_upper}
use Rattle.spw.specs.Line.{marker_word}
use Rattle.spw.specs.declared.packets.End.{End}
use Rattle.job_suite.specs.Marks.{suite_marked_line}
use Rattle.job_suite.specs.Trials.{trial_line}
use Rattle.job_suite.specs.declared.trials.Trial.{Trial}

joined : (port digits mark : List ℕ) → port ++ 32 ∷ [] ++ digits ++ 32 ∷ [] ++ mark ++ 10 ∷ [] ≡ (port ++ 32 ∷ digits ++ 32 ∷ mark) ++ 10 ∷ []
joined port digits mark = simp append_assoc

-- a line of port 0, these digits and this word is that of the packet, if they are those of the packet
pub line_is : (t : Trial) (bytes digits mark : List ℕ) (end : End) → digits ≡ encode_upper bytes → bytes ≡ t.packet.bytes
    → mark ≡ marker_word end → end ≡ t.packet.end → suite_marked_line 0 digits mark ≡ trial_line t
line_is t bytes digits mark end upper are word is =
    joined (decimal 0) digits mark
    ∙ ap₂ (λ (d m : List ℕ). (decimal 0 ++ 32 ∷ d ++ 32 ∷ m) ++ 10 ∷ []) (upper ∙ ap encode_upper are) (word ∙ ap marker_word is)
