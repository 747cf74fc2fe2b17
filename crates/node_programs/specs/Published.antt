-- Which program judges.
use Rattle.std.specs.Prelude.{ℕ, ◌≡◌, ◌==◌, ◌+◌, List, [], ◌∷◌, Option, Some, None, cond}
use Rattle.std.specs.Option.{option_map}
use Rattle.machine.specs.Sizes.{Maps}
use Rattle.bver.specs.Justified.{AcceptedValue}
use Rattle.node_programs.specs.declared.publishes.Publish.{Publish}

-- the last program for a slot, with its generation; `best` judged before these and `next` is the generation of the
-- first of them
abbrev pub judging_from : AcceptedValue × ℕ → ℕ → List Publish → ℕ → AcceptedValue × ℕ
judging_from best next [] slot = best
judging_from best next (p ∷ ps) slot = judging_from (cond (p.slot == slot) (p.program, next) best) (next + 1) ps slot

-- the program that judges at a slot, with its generation: the last that was published for it. Else it is the factory
-- program, with which each history begins, and 0
abbrev pub judging_program : List Publish → ℕ → Option (AcceptedValue × ℕ)
judging_program [] slot = None
judging_program (f ∷ ps) slot = Some (judging_from (f.program, 0) 1 ps slot)

-- the program that judges at a slot
abbrev pub program_at : List Publish → ℕ → Option AcceptedValue
program_at history slot = option_map (λ p. p.0) (judging_program history slot)

-- the generation of the program that judges at a slot
abbrev pub generation_at : List Publish → ℕ → Option ℕ
generation_at history slot = option_map (λ p. p.1) (judging_program history slot)

-- the maps of a node: those of its factory program
abbrev pub sizes_of : List Publish → Maps
sizes_of [] = record { cells = []; kinds = [] }
sizes_of (f ∷ ps) = f.program.sizes

-- each program was accepted for those maps
abbrev pub AreFor : Maps → List Publish → Type 0
AreFor sizes [] = Unit {0}
AreFor sizes (p ∷ ps) = (p.program.sizes ≡ sizes) × AreFor sizes ps
