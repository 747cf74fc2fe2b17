use Rattle.std.proofs.Common.{arith, rules}
use Rattle.page_format.specs.Pieces.{words_value}
use Rattle.page_format.proofs.Found.{word_pushed, words_found}
use Rattle.page_format.proofs.Refused.{too_few_words}
use Rattle.page_format.proofs.reading.words_of.Goals as goal

pub returns-in_default : goal.returns-in_default
returns-in_default c =
    too_few_words c.args.bytes.now c.loop-word.rest.now (words_value c.loop-word.words.items) c.loop-word._word c.args.count c.loop-word.invariant c.loop-word-test.true c.in_default.ensures

pub loop-word-preserved : goal.loop-word-preserved
loop-word-preserved c =
    word_pushed c.args.bytes.now c.loop-word.rest.now c.in-Some.after.now c.in-Some.word c.loop-word.words.items c.push.new.self.items c.loop-word._word c.loop-word.invariant c.in-Some.ensures (search rules)

pub returns : goal.returns
returns c =
    words_found c.args.bytes.now c.loop-word.rest.now (words_value c.loop-word.words.items) c.loop-word._word c.args.count c.loop-word.invariant (omega arith)
