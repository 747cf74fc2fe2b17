use Rattle.std.proofs.Common.{length, map, take}
use Rattle.bpf.specs.Program.{Program}
use Rattle.basm.specs.PartialImage.{ArePartsOf, SayParts, SurveysText}
use Rattle.basm.specs.Names.{slot_named}
use Rattle.basm.specs.Relation.{IsText}
use Rattle.basm.proofs.assembly.read_lines.Given as goal

abbrev pub invariant-loop-line : goal.invariant-loop-line
invariant-loop-line l = record {
  say : SayParts (slot_named l.survey.names) (map (λ line. line.now) l.yielded) l.parts;
  exact : (p : Program) (t : IsText l.text p) → SurveysText t l.survey → ArePartsOf (take (length l.yielded) t.items) l.parts;
}
