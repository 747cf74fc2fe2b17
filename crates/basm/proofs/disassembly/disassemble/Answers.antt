use Rattle.std.proofs.lemmas.Result.{IfOk-weaker}
use Rattle.std.specs.String.{string_bytes}
use Rattle.basm.proofs.Printed.Images.{printed_is_text}
use Rattle.basm.proofs.Printed.Insns.{PrintedWords}
use Rattle.basm.proofs.disassembly.disassemble.Goals as goal

pub returns-clause-text : goal.returns-clause-text
returns-clause-text c =
    let said = c.printed_words.ensures in
    let laws : PrintedWords = record {
      number = said.number;
      signed = said.signed;
      distance = said.distance;
      place = said.place;
      constant = said.constant;
      numeral = said.numeral;
      register = said.register;
      name = said.name;
      operands = said.operands;
      first = said.first;
      rest = said.rest;
      line = said.line;
    } in
    IfOk-weaker c.print_image.result _ _ (λ text printed. printed_is_text laws (string_bytes text) c.args.image.now c.print_image.ensures.program printed) c.print_image.ensures.printed
