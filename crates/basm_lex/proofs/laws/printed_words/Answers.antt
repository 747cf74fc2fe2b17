use Rattle.basm_lex.proofs.Printed.Insns.{name_word, operands_words}
use Rattle.basm_lex.proofs.Printed.Numerals.{bits_writes, distance_writes, number_writes, place_writes, signed_writes}
use Rattle.basm_lex.proofs.Printed.Texts.{decimal_word, register_word}
use Rattle.basm_lex.proofs.Printed.Words.{line_split, operands_written, word_written}
use Rattle.basm_lex.proofs.laws.printed_words.Goals as goal

pub returns : goal.returns
returns c = record {
  number = number_writes;
  signed = signed_writes;
  distance = distance_writes;
  place = place_writes;
  constant = bits_writes;
  numeral = decimal_word;
  register = register_word;
  name = name_word;
  operands = operands_words;
  first = word_written;
  rest = operands_written;
  line = line_split;
}
