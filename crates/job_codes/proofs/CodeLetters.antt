-- A text that writes a code of no kind is no code.
use Rattle.std.proofs.Common.{ℕ, ◌<◌, List, lit<}
use Rattle.job_codes.specs.Topics.{HasNumber, IsDecimalCode, topic_kind_at}
use Rattle.job_codes.specs.declared.topics.CodeKind.{CodeKind}
use Rattle.job_codes.specs.declared.topics.CodeKind.TheVariants.{Verifier, Text, Image, Insn, Line, Frame, Discard, Status, Load, Policy, Node}

-- each kind has a place
none_of : (text : List ℕ) → ((k : ℕ) → k < 11 → HasNumber (topic_kind_at k) text → ⊥) → (kind : CodeKind) → HasNumber kind text → ⊥
unfolding topic_kind_at
none_of text none Verifier h = none 0 (lit< tt) h
none_of text none Text h = none 1 (lit< tt) h
none_of text none Image h = none 2 (lit< tt) h
none_of text none Insn h = none 3 (lit< tt) h
none_of text none Line h = none 4 (lit< tt) h
none_of text none Frame h = none 5 (lit< tt) h
none_of text none Discard h = none 6 (lit< tt) h
none_of text none Status h = none 7 (lit< tt) h
none_of text none Load h = none 8 (lit< tt) h
none_of text none Policy h = none 9 (lit< tt) h
none_of text none Node h = none 10 (lit< tt) h

pub no_code : (text : List ℕ) → ((k : ℕ) → k < 11 → ¬ HasNumber (topic_kind_at k) text) → ¬ IsDecimalCode text
no_code text none code = none_of text none code.0 code.1
