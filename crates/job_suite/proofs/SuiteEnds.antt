-- How the job `suite` ends.
use Rattle.std.proofs.Common.{◌≡◌, inl, inr, ℕ, List, Option, sym, subst, option_map, string_bytes}
use Rattle.std.specs.Io.KnownBytes.{Appends}
use Rattle.bver.specs.Justified.{AcceptedValue}
use Rattle.job_config.specs.OwnNodes.{OwnNodeValue}
use Rattle.job_parts.specs.Files.{ReadsFile}
use Rattle.job_parts.specs.Stops.{StopsBy}
use Rattle.job_parts.specs.declared.faults.Fault.{Fault}
use Rattle.job_parts.specs.declared.stops.JobStop.{JobStop}
use Rattle.job_parts.specs.declared.stops.JobStop.TheVariants.{Ended}
use Rattle.job_suite.specs.SuiteFile.{HoldsTableAndNode, HoldsSuiteNode, IsBench, IsNoSuite, IsSuiteText, PrintsSuite}
use Rattle.job_suite.specs.SuiteJob.{name_of_table}
use Rattle.job_suite.specs.Tables.{AreTableOf, HasNoChart, ReadsSuiteTable}
use Rattle.job_suite.specs.declared.trials.Bench.{Bench}
use Rattle.job_suite.specs.declared.words.SuiteWords.{SuiteWords}

module _ {S : Type 0} (reads : ReadsFile S) (words : SuiteWords) (before between after : S) (name table : Option (List ℕ)) (own : OwnNodeValue)
    (first : AcceptedValue) (bench : Bench) (named : name ≡ name_of_table words.table) (asked : ReadsSuiteTable reads name before table between)
    (held : HoldsSuiteNode reads (option_map string_bytes words.node) between own first after) (is_bench : IsBench words own first bench) where
  -- the table and the node were read
  all_held : HoldsTableAndNode reads words before table own first bench after
  all_held = record {
    middle = between;
    read = subst (λ (n : Option (List ℕ)). ReadsSuiteTable reads n before table between) named asked;
    held = held;
    is_bench = is_bench;
  }

  -- the table is that of none of its programs
  pub no_chart : (fault : Fault) (halt : JobStop) → halt ≡ Ended fault → HasNoChart bench.judges bench.judges.own.sizes words.table table fault
      → StopsBy (IsNoSuite reads words before after) halt
  no_chart fault halt is none =
      subst (λ (h : JobStop). StopsBy (IsNoSuite reads words before after) h) (sym is)
      (inr (inr (inl (record { own = own; first = first; bench = bench; table = table; held = all_held; none = none }))))

  -- the suite was printed
  pub printed : (text shown : List ℕ) (old new : Option (List ℕ)) → AreTableOf bench.judges bench.judges.own.sizes words.table table → IsSuiteText words bench text
      → shown ≡ text → Appends old new shown → PrintsSuite reads words before after old new
  printed text shown old new of_table is_text same prints = record {
    own = own;
    first = first;
    bench = bench;
    table = table;
    held = all_held;
    of_table = of_table;
    text = text;
    is_text = is_text;
    printed = subst (λ (t : List ℕ). Appends old new t) same prints;
  }
