use Rattle.std.proofs.lemmas.Str.{IsUtf8-string_bytes}
use Rattle.job_parts.proofs.programs.text_in.Goals as goal

pub returns-in-Ok-clause-utf8 : goal.returns-in-Ok-clause-utf8
returns-in-Ok-clause-utf8 g c = IsUtf8-string_bytes c.in-Ok.text
