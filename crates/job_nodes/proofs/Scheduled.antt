-- The lines of a schedule, and the world on which they begin.
use Rattle.std.proofs.Common.{◌≡◌, ℕ, List, Option, None, Some, subst}
use Rattle.std.specs.Prelude.{MatchOption}
use Rattle.sched.specs.Worlds.{WorldValue}
use Rattle.job_config.specs.declared.node_lines.NodeLines.{NodeLines}
use Rattle.job_parts.specs.Files.{ReadsFile}
use Rattle.job_nodes.specs.Beginning.{GivesSchedule, HasContents, HoldsWorld, IsScheduled, RefusesContents}

module _ {S : Type 0} (reads : ReadsFile S) (args : NodeLines) (before : S) (text : List ℕ) (made : Option WorldValue) (after : S) where
  -- the world that was made
  pub world_in : (world : WorldValue) (gives : GivesSchedule reads args before text made after) → made ≡ Some world → HoldsWorld reads args.node gives.between world after
  world_in world gives is =
      subst (λ (m : Option WorldValue). MatchOption m (HasContents reads args.node gives.between after) (λ (w : WorldValue). HoldsWorld reads args.node gives.between w after)) is gives.given

  -- the lines begin on it
  pub scheduled : (world : WorldValue) (gives : GivesSchedule reads args before text made after) (is : made ≡ Some world)
      → IsScheduled reads args before text (world_in world gives is).node after
  scheduled world gives is = record { between = gives.between; read = gives.read; utf8 = gives.utf8; begins = (world_in world gives is).begun }

  -- a bank begins with bytes
  pub refuses_contents : (old new : Option (List ℕ)) → GivesSchedule reads args before text made after → made ≡ None → new ≡ old
      → RefusesContents reads args before after old new
  refuses_contents old new gives is silent = record {
    text = text;
    between = gives.between;
    read = gives.read;
    utf8 = gives.utf8;
    contents = subst (λ (m : Option WorldValue). MatchOption m (HasContents reads args.node gives.between after) (λ (w : WorldValue). HoldsWorld reads args.node gives.between w after)) is gives.given;
    silent = silent;
  }
