use Rattle.std.proofs.Common.{lit≤, ◌∙◌, sym}
use Rattle.basm_lex.proofs.RegisterTexts.{no_register, text_0, text_1, text_2, text_3, text_4, text_5, text_6, text_7, text_8, text_9, text_10}
use Rattle.basm_lex.proofs.registers.register_number.Goals as goal

pub returns-in-r0 : goal.returns-in-r0
returns-in-r0 c = (lit≤ tt, c.in-r0.is ∙ sym text_0)

pub returns-in-r1 : goal.returns-in-r1
returns-in-r1 c = (lit≤ tt, c.in-r1.is ∙ sym text_1)

pub returns-in-r2 : goal.returns-in-r2
returns-in-r2 c = (lit≤ tt, c.in-r2.is ∙ sym text_2)

pub returns-in-r3 : goal.returns-in-r3
returns-in-r3 c = (lit≤ tt, c.in-r3.is ∙ sym text_3)

pub returns-in-r4 : goal.returns-in-r4
returns-in-r4 c = (lit≤ tt, c.in-r4.is ∙ sym text_4)

pub returns-in-r5 : goal.returns-in-r5
returns-in-r5 c = (lit≤ tt, c.in-r5.is ∙ sym text_5)

pub returns-in-r6 : goal.returns-in-r6
returns-in-r6 c = (lit≤ tt, c.in-r6.is ∙ sym text_6)

pub returns-in-r7 : goal.returns-in-r7
returns-in-r7 c = (lit≤ tt, c.in-r7.is ∙ sym text_7)

pub returns-in-r8 : goal.returns-in-r8
returns-in-r8 c = (lit≤ tt, c.in-r8.is ∙ sym text_8)

pub returns-in-r9 : goal.returns-in-r9
returns-in-r9 c = (lit≤ tt, c.in-r9.is ∙ sym text_9)

pub returns-in-r10 : goal.returns-in-r10
returns-in-r10 c = (lit≤ tt, c.in-r10.is ∙ sym text_10)

pub returns-in_default : goal.returns-in_default
returns-in_default c =
    let other = c.in_default in
    no_register c.args.word.now other.not-r0 other.not-r1 other.not-r2 other.not-r3 other.not-r4 other.not-r5 other.not-r6 other.not-r7 other.not-r8 other.not-r9 other.not-r10
