use Rattle.basm.specs.Names.{slot_named}
use Rattle.basm_lex.specs.declared.mnemonics.Mnemonic.TheVariants.{Arithmetic, Negation, SignedMove, Swapping, Loading, Storing, StoringRegister, Jumping, ShortGoto, LongGoto, WideLoad, MapLoad, AddressLoad, Calling, Exiting}
use Rattle.basm.specs.Relation.{texts}
use Rattle.basm.proofs.InsnReadings.{insn_read}
use Rattle.basm.proofs.OperandReadings.{no_words}
use Rattle.basm.proofs.instructions.read_insn.Goals as goal

pub returns-in-Arithmetic-clause-exact : goal.returns-in-Arithmetic-clause-exact
returns-in-Arithmetic-clause-exact c =
    insn_read (slot_named c.args.names.now) c.args.slot (texts c.args.operands.now) c.arithmetic.result c.mnemonic_laws.ensures.apart c.args.found (Arithmetic c.in-Arithmetic.op c.in-Arithmetic.width) c.in-Arithmetic.is c.arithmetic.ensures.exact

pub returns-in-Negation-clause-exact : goal.returns-in-Negation-clause-exact
returns-in-Negation-clause-exact c =
    insn_read (slot_named c.args.names.now) c.args.slot (texts c.args.operands.now) c.negation.result c.mnemonic_laws.ensures.apart c.args.found (Negation c.in-Negation.width) c.in-Negation.is c.negation.ensures.exact

pub returns-in-SignedMove-clause-exact : goal.returns-in-SignedMove-clause-exact
returns-in-SignedMove-clause-exact c =
    insn_read (slot_named c.args.names.now) c.args.slot (texts c.args.operands.now) c.signed_move.result c.mnemonic_laws.ensures.apart c.args.found (SignedMove c.in-SignedMove.extension) c.in-SignedMove.is c.signed_move.ensures.exact

pub returns-in-Swapping-clause-exact : goal.returns-in-Swapping-clause-exact
returns-in-Swapping-clause-exact c =
    insn_read (slot_named c.args.names.now) c.args.slot (texts c.args.operands.now) c.byte_swap.result c.mnemonic_laws.ensures.apart c.args.found (Swapping c.in-Swapping.swap c.in-Swapping.bits) c.in-Swapping.is c.byte_swap.ensures.exact

pub returns-in-Loading-clause-exact : goal.returns-in-Loading-clause-exact
returns-in-Loading-clause-exact c =
    insn_read (slot_named c.args.names.now) c.args.slot (texts c.args.operands.now) c.load.result c.mnemonic_laws.ensures.apart c.args.found (Loading c.in-Loading.size) c.in-Loading.is c.load.ensures.exact

pub returns-in-Storing-clause-exact : goal.returns-in-Storing-clause-exact
returns-in-Storing-clause-exact c =
    insn_read (slot_named c.args.names.now) c.args.slot (texts c.args.operands.now) c.store.result c.mnemonic_laws.ensures.apart c.args.found (Storing c.in-Storing.size) c.in-Storing.is c.store.ensures.exact

pub returns-in-StoringRegister-clause-exact : goal.returns-in-StoringRegister-clause-exact
returns-in-StoringRegister-clause-exact c =
    insn_read (slot_named c.args.names.now) c.args.slot (texts c.args.operands.now) c.store_register.result c.mnemonic_laws.ensures.apart c.args.found (StoringRegister c.in-StoringRegister.size) c.in-StoringRegister.is c.store_register.ensures.exact

pub returns-in-Jumping-clause-exact : goal.returns-in-Jumping-clause-exact
returns-in-Jumping-clause-exact c =
    insn_read (slot_named c.args.names.now) c.args.slot (texts c.args.operands.now) c.jump.result c.mnemonic_laws.ensures.apart c.args.found (Jumping c.in-Jumping.condition c.in-Jumping.width) c.in-Jumping.is c.jump.ensures.exact

pub returns-in-ShortGoto-clause-exact : goal.returns-in-ShortGoto-clause-exact
returns-in-ShortGoto-clause-exact c =
    insn_read (slot_named c.args.names.now) c.args.slot (texts c.args.operands.now) c.short_goto.result c.mnemonic_laws.ensures.apart c.args.found ShortGoto c.in-ShortGoto.is c.short_goto.ensures.exact

pub returns-in-LongGoto-clause-exact : goal.returns-in-LongGoto-clause-exact
returns-in-LongGoto-clause-exact c =
    insn_read (slot_named c.args.names.now) c.args.slot (texts c.args.operands.now) c.long_goto.result c.mnemonic_laws.ensures.apart c.args.found LongGoto c.in-LongGoto.is c.long_goto.ensures.exact

pub returns-in-WideLoad-clause-exact : goal.returns-in-WideLoad-clause-exact
returns-in-WideLoad-clause-exact c =
    insn_read (slot_named c.args.names.now) c.args.slot (texts c.args.operands.now) c.wide.result c.mnemonic_laws.ensures.apart c.args.found WideLoad c.in-WideLoad.is c.wide.ensures.exact

pub returns-in-MapLoad-clause-exact : goal.returns-in-MapLoad-clause-exact
returns-in-MapLoad-clause-exact c =
    insn_read (slot_named c.args.names.now) c.args.slot (texts c.args.operands.now) c.map.result c.mnemonic_laws.ensures.apart c.args.found MapLoad c.in-MapLoad.is c.map.ensures.exact

pub returns-in-AddressLoad-clause-exact : goal.returns-in-AddressLoad-clause-exact
returns-in-AddressLoad-clause-exact c =
    insn_read (slot_named c.args.names.now) c.args.slot (texts c.args.operands.now) c.address_load.result c.mnemonic_laws.ensures.apart c.args.found AddressLoad c.in-AddressLoad.is c.address_load.ensures.exact

pub returns-in-Calling-clause-exact : goal.returns-in-Calling-clause-exact
returns-in-Calling-clause-exact c =
    insn_read (slot_named c.args.names.now) c.args.slot (texts c.args.operands.now) c.call.result c.mnemonic_laws.ensures.apart c.args.found (Calling c.in-Calling.callee) c.in-Calling.is c.call.ensures.exact

pub returns-in-Exiting-clause-exact : goal.returns-in-Exiting-clause-exact
returns-in-Exiting-clause-exact c =
    insn_read (slot_named c.args.names.now) c.args.slot (texts c.args.operands.now) c.exit.result c.mnemonic_laws.ensures.apart c.args.found Exiting c.in-Exiting.is (λ none. c.exit.ensures.exact (no_words c.args.operands.now none))
