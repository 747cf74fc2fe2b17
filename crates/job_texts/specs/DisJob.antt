-- The words of the job `dis`.
use Rattle.std.specs.Prelude.{◌≡◌, List, Some, codes, string_bytes}
use Rattle.clap.specs.Walk.{Row, first_of}
use Rattle.clap.specs.Simple.{App, with_rule}
use Rattle.job_parts.specs.Arguments.{flag_rule, image_app, is_flag_set}
use Rattle.job_texts.specs.declared.dis.DisWords.{DisWords}

-- `dis FILE [--slots]`
abbrev pub dis_app : App
dis_app = with_rule (image_app (codes "dis")) (flag_rule (codes "slots"))

-- the words are those of dis with these matches
abbrev pub NamesDis : List Row → DisWords → Type 0
NamesDis rows words =
    (first_of (codes "image") rows ≡ Some (string_bytes words.image)) × (words.slots ≡ is_flag_set (codes "slots") rows)
