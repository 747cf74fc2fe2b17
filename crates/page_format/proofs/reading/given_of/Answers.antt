use Rattle.std.proofs.Common.{rules}
use Rattle.page_format.specs.Pieces.{words_value}
use Rattle.page_format.proofs.Refused.{no_folder_not_given}
use Rattle.page_format.proofs.reading.given_of.Goals as goal

pub returns-in_default-3 : goal.returns-in_default-3
returns-in_default-3 c =
    no_folder_not_given c.args.bytes.now c.in-Some.rest.now c.in-Some-2.rest.now c.in-Some.count (words_value c.in-Some-2.words.items) (search rules) (search rules) (search rules)
