-- The maps that a program needs, and the line of them.
use Rattle.std.specs.Prelude.{◌≡◌, ◌⊎◌, ℕ, List, [], ◌∷◌, ◌++◌, Option, codes, decimal}
use Rattle.std.specs.Io.KnownBytes.{Appends}
use Rattle.std.specs.List.{flat_map}
use Rattle.bpf.specs.Program.{Program}
use Rattle.bver.specs.Justified.{IsJustified}
use Rattle.machine.specs.Sizes.{Maps, listed_maps}
use Rattle.machine.specs.declared.kinds.MapKind.{MapKind}
use Rattle.machine.specs.declared.kinds.MapKind.TheVariants.{Counter, Peak}

-- a node with these maps may be given the program, and one without maps may not
pub record NeedsMaps (p : Program) (maps : Maps) : Type 0 where
  pub justified : IsJustified p maps
  pub needed : ¬ IsJustified p (listed_maps [])

-- maps that the program needs, or none
abbrev pub AreNeeded : Program → List (ℕ × MapKind) → Type 0
AreNeeded p maps = (maps ≡ []) ⊎ NeedsMaps p (listed_maps maps)

-- a map as the option `--maps` writes it: how many cells it has, and a `p` after those of a peak map
abbrev pub map_text : ℕ × MapKind → List ℕ
map_text (cells, Counter) = decimal cells
map_text (cells, Peak) = decimal cells ++ codes "p"

-- a map after others
abbrev pub next_map_text : ℕ × MapKind → List ℕ
next_map_text map = codes "," ++ map_text map

-- the line of maps, after a sign: `maps 5,1p`; without maps there is none
abbrev pub maps_line : (sign : List ℕ) → List (ℕ × MapKind) → List ℕ
maps_line sign [] = []
maps_line sign (map ∷ maps) = sign ++ codes "maps " ++ map_text map ++ flat_map next_map_text maps ++ codes "\n"

-- the line of maps that the program needs, or no line
pub record IsMapsLine (sign : List ℕ) (p : Program) (line : List ℕ) : Type 0 where
  pub maps : List (ℕ × MapKind)
  pub needed : AreNeeded p maps
  pub line_is : line ≡ maps_line sign maps

-- such a line was printed, or nothing
pub record PrintsMaps (sign : List ℕ) (p : Program) (old new : Option (List ℕ)) : Type 0 where
  pub line : List ℕ
  pub maps : IsMapsLine sign p line
  pub printed : Appends old new line
