-- What the job `weigh` reads and prints.
use Rattle.std.specs.Prelude.{ℕ, List, [], ◌∷◌, ◌++◌, Option, Some, None, codes, decimal, string_bytes}
use Rattle.std.specs.Io.KnownBytes.{Appends}
use Rattle.bpf.specs.Program.{Program}
use Rattle.bpf.specs.Weight.{saturated_weight, weight_of}
use Rattle.bver.specs.Costs.{IsSafeForCosts}
use Rattle.bver.specs.Justified.{IsJustified}
use Rattle.bver_form.specs.Costs.{weight_by}
use Rattle.machine.specs.Runs.{IsSafe}
use Rattle.weights.specs.Classes.{cost_by, costs}
use Rattle.job_parts.specs.Files.{ReadsFile, HoldsImage}
use Rattle.job_weigh.specs.Times.{in_nanoseconds}
use Rattle.job_weigh.specs.declared.times.Times.{Times}
use Rattle.job_weigh.specs.declared.weigh.WeighWords.{WeighWords}

-- the lines of these weights
unfoldable pub weight_lines_of : (division call jump rest weight : ℕ) → List ℕ
weight_lines_of division call jump rest weight =
    codes "division " ++ (decimal division ++ (codes "\ncall " ++ (decimal call ++ (codes "\njump " ++ (decimal jump
    ++ (codes "\nrest " ++ (decimal rest ++ (codes "\nweight " ++ (decimal weight ++ 10 ∷ [])))))))))

-- how many instructions of each class a run of the program takes at most, and how many in all. The weight of a class is
-- the weight if each of its instructions costs one, and each other instruction nothing
abbrev pub class_lines : Program → List ℕ
class_lines p =
    weight_lines_of (weight_by (cost_by (costs 1 0 0 0)) p) (weight_by (cost_by (costs 0 1 0 0)) p)
    (weight_by (cost_by (costs 0 0 1 0)) p) (weight_by (cost_by (costs 0 0 0 1)) p) (saturated_weight (weight_of p))

-- how many nanoseconds a run of the program takes at most, if times are given: the weight if each instruction costs the
-- time of its class
abbrev pub longest : Program → Option Times → Option ℕ
longest p None = None
longest p (Some times) = Some (in_nanoseconds times.unit (weight_by (cost_by times.costs) p))

-- the line of that
abbrev pub time_lines : Option ℕ → List ℕ
time_lines None = []
time_lines (Some most) = codes "at most " ++ decimal most ++ codes " ns" ++ 10 ∷ []

module _ {S : Type 0} (reads : ReadsFile S) where
  -- the image in the file is justified on a node with maps of these sizes, and so safe. No run of it costs more than
  -- its weight, whatever each instruction costs. Its weights by class were printed, and the time by the times that are
  -- given
  pub record Weighs (words : WeighWords) (before after : S) (old new : Option (List ℕ)) : Type 0 where
    pub program : Program
    pub image : HoldsImage reads before (string_bytes words.image) program after
    pub justified : IsJustified program words.sizes
    pub safe : IsSafe program words.sizes
    pub costs : IsSafeForCosts program
    pub reported : Option (List ℕ)
    pub classes : Appends old reported (class_lines program)
    pub time : Appends reported new (time_lines (longest program words.times))
