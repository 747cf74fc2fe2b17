-- How large the images of a node are: what its pool is reckoned by.
use Rattle.std.specs.Prelude.{◌≡◌, ℕ, max, Bool, List, [], ◌∷◌, length}
use Rattle.bpf.specs.Program.{Program}
use Rattle.bver_form.specs.Targets.{AreKept, IsNumbered}
use Rattle.bver.specs.Justified.{AcceptedValue}
use Rattle.job_node_file.specs.declared.images.ImageSize.{ImageSize}

-- at this many slots the verifier keeps what is known: slot 0, and those to which the program jumps
pub record HasEntries (p : Program) (count : ℕ) : Type 0 where
  pub marks : List Bool
  pub places : List ℕ
  pub size : length marks ≡ length p.slots
  pub kept : AreKept p marks
  pub numbered : IsNumbered marks places count

-- the size is how many slots the program has, and at how many of them the verifier keeps what is known
pub record IsSizeOf (p : Program) (size : ImageSize) : Type 0 where
  pub slots : size.slots ≡ length p.slots
  pub entries : HasEntries p size.entries

-- the greater of both in each of the two
abbrev pub larger : (a b : ImageSize) → ImageSize
larger a b = record { slots = max a.slots b.slots; entries = max a.entries b.entries }

-- with the programs that are published these most become those
abbrev pub AreGreatest : (from : ImageSize) → List (ℕ × AcceptedValue) → (most : ImageSize) → Type 0
AreGreatest from [] most = most ≡ from
AreGreatest from (publish ∷ publishes) most =
    (size : ImageSize) × IsSizeOf publish.1.program size × AreGreatest (larger from size) publishes most

-- the most slots of a program and of the programs that are published, and the most at which the verifier keeps what is known
pub record AreLargest (p : Program) (publishes : List (ℕ × AcceptedValue)) (most : ImageSize) : Type 0 where
  pub own : ImageSize
  pub is : IsSizeOf p own
  pub with_publishes : AreGreatest own publishes most
