-- Files that are read one after the other.
use Rattle.std.proofs.Common.{◌++◌, ◌∷◌, [], ℕ, IfErr, IfOk, List, MatchResult, Option, Result, Ok, Err, Some, None, inl, inr, refl, subst}
use Rattle.bpf.specs.Program.{Program}
use Rattle.machine.specs.Sizes.{Maps}
use Rattle.job_parts.specs.Files.{HoldsNoText, ReadsFile}
use Rattle.job_parts.specs.Given.{HoldsNoProgram, HoldsProgram}
use Rattle.job_parts.specs.declared.faults.Fault.{Fault}
use Rattle.job_config.specs.Reads.{AreRead, SomeRead}

module _ {S : Type 0} (reads : ReadsFile S) where
  -- files that are read after others
  read_after : (first next : List (List ℕ × Option (List ℕ))) (before middle after : S) → AreRead reads first before middle
      → AreRead reads next middle after → AreRead reads (first ++ next) before after
  read_after [] next before middle after same read = subst (λ (s : S). AreRead reads next s after) same read
  read_after (r ∷ rs) next before middle after (state, one, others) read =
      (state, one, read_after rs next state middle after others read)

  -- one file was read
  pub one_read : (name : List ℕ) (given : Option (List ℕ)) (before after : S) → reads before name given after
      → SomeRead reads before after
  one_read name given before after read = ((name, given) ∷ [], (after, read, refl))

  -- some files were read, and then some more
  pub some_read : (before middle after : S) → SomeRead reads before middle → SomeRead reads middle after
      → SomeRead reads before after
  some_read before middle after (first, one) (next, other) =
      (first ++ next, read_after first next before middle after one other)

  -- a program was read, or there is no file
  pub program_read : (name : Option (List ℕ)) (p : Program) (before after : S) → HoldsProgram reads before name p after
      → SomeRead reads before after
  program_read None p before after h = ([], h.1)
  program_read (Some name) p before after h = one_read name (Some h.bytes) before after h.read

  -- a file gave no program
  pub no_program_read : (name : Option (List ℕ)) (maps : Maps) (before after : S) (fault : Fault)
      → HoldsNoProgram reads before name maps after fault → SomeRead reads before after
  no_program_read None maps before after fault h = ([], h.0)
  no_program_read (Some name) maps before after fault (inl (inl unread)) = one_read name None before after unread.unread
  no_program_read (Some name) maps before after fault (inl (inr (bad, is, holds))) =
      one_read name (Some holds.bytes) before after holds.read
  no_program_read (Some name) maps before after fault (inr (refused, is, holds)) =
      one_read name (Some holds.image.bytes) before after holds.image.read

  -- a file was asked for
  pub asked_read : {A E : Type 0} (r : Result A E) (bytes : A → List ℕ) (name : List ℕ) (before after : S)
      → MatchResult r (λ x. reads before name (Some (bytes x)) after) (λ _. reads before name None after)
      → SomeRead reads before after
  asked_read (Ok x) bytes name before after h = one_read name (Some (bytes x)) before after h
  asked_read (Err e) bytes name before after h = one_read name None before after h

  -- a program was asked for
  pub asked_program : {A : Type 0} (r : Result A Fault) (program : A → Program) (name : Option (List ℕ)) (maps : Maps) (before after : S)
      → IfOk r (λ x. HoldsProgram reads before name (program x) after)
      → IfErr r (HoldsNoProgram reads before name maps after) → SomeRead reads before after
  asked_program (Ok x) program name maps before after held none = program_read name (program x) before after held
  asked_program (Err fault) program name maps before after held none = no_program_read name maps before after fault none

  -- a text was asked for
  pub asked_text : {A E : Type 0} (r : Result A E) (bytes : A → List ℕ) (name : List ℕ) (before after : S)
      → MatchResult r (λ x. reads before name (Some (bytes x)) after) (λ _. HoldsNoText reads before name after)
      → SomeRead reads before after
  asked_text (Ok x) bytes name before after h = one_read name (Some (bytes x)) before after h
  asked_text (Err e) bytes name before after h = one_read name h.given before after h.read
