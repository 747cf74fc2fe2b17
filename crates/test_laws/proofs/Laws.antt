-- What laws say of runs.
use Rattle.std.proofs.Common.{◌≡◌, ◌∙◌, ℕ, List, ap, sym, refl}
use Rattle.std.specs.Prelude.{Option, None, Some, option_map, slice_get}
use Rattle.bpf.specs.Program.{Program}
use Rattle.bver.specs.Justified.{AcceptedValue}
use Rattle.node_programs.specs.Published.{judging_program}
use Rattle.sched.specs.Agreement.{PublishedAgrees, program_and_generation}
use Rattle.sched.specs.History.{History}
use Rattle.sched.specs.Looking.{Node, published}
use Rattle.sched.specs.Worlds.{AreProgramsOf, IsWorldOf, WorldValue, generation_in}
use Rattle.test_laws.specs.Runs.{IsGenerationIn, generation_shown}

abbrev second : Option (Program × ℕ) → Option ℕ
second None = None
second (Some p) = Some p.1

-- the generation of what is shown, by what is published
by_published : (o : Option (AcceptedValue × ℕ)) (p : Program × ℕ) → option_map program_and_generation o ≡ Some p → option_map generation_shown o ≡ Some p.1
by_published None p is = absurd (cc is)
by_published (Some shown) p is = ap second is

-- the generation of a slot is that of what is published for it
of_slot : (n : Node) (h : History) (slot generation : ℕ) (programs : List (AcceptedValue × ℕ)) (o : Option (AcceptedValue × ℕ)) → slice_get programs slot ≡ o → Some generation ≡ generation_in o
    → AreProgramsOf n (published n h) programs → generation ≡ (published n h slot).1
of_slot n h slot generation programs None is reported are = absurd (cc reported)
of_slot n h slot generation programs (Some shown) is reported are =
    let same : generation ≡ shown.1 = cc reported in
    same ∙ (are slot shown is).generation

pub generation_reported : PublishedAgrees → (world : WorldValue) (slot generation : ℕ) → Some generation ≡ generation_in (slice_get world.programs slot)
    → (n : Node) (h : History) → IsWorldOf n h world → IsGenerationIn n h slot generation
generation_reported law world slot generation reported n h of = λ publishes are.
    by_published (judging_program publishes slot) (published n h slot) (law n h publishes slot are)
    ∙ ap (λ (g : ℕ). Some g) (sym (of_slot n h slot generation world.programs (slice_get world.programs slot) refl reported of.programs_are))
