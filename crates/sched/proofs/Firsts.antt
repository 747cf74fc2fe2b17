-- What is published before the first event.
use Rattle.std.proofs.Common.{◌≡◌, ◌<◌, ◌≤◌, ◌+◌, ◌==◌, ℕ, suc, List, [], ◌∷◌, ◌++◌, length, set, take, get_or, All, Bool, true, false, Option, Some, None, refl, sym, ap, subst, ◌∙◌, arith, eqb-true}
use Rattle.std.specs.Prelude.{map, slice_get, if◌then◌else◌}
use Rattle.std.proofs.lemmas.Bool.{eqb-false}
use Rattle.std.proofs.lemmas.List.Elements.{All-head, All-push, All-tail}
use Rattle.std.proofs.lemmas.List.{length-append, length-set, map-append, take_more}
use Rattle.std.proofs.lemmas.Option.{slice_get_within, get_or_from_slice_get}
use Rattle.std.proofs.lemmas.Grind.{get_or-set_at}
use Rattle.lemmas.proofs.Places.{at_other}
use Rattle.bpf.specs.Program.{Program}
use Rattle.bver.specs.Justified.{AcceptedValue, IsJustified}
use Rattle.machine.specs.Sizes.{Maps}
use Rattle.bank.specs.Effect.{Memory}
use Rattle.bank.specs.Records.{BankValue, EntryValue}
use Rattle.node_parts.specs.declared.config.BankConfig.{BankConfig}
use Rattle.node_parts.specs.declared.config.NodeConfig.{NodeConfig}
use Rattle.node_programs.specs.Staged.{Staged}
use Rattle.sched.specs.Firsts.{AddsFirst, IsFirstOfWorld, slot_with_program, with_first}
use Rattle.sched.specs.Headline.{IsNode}
use Rattle.sched.specs.History.{Start}
use Rattle.sched.specs.Looking.{Node, entries, first_memory, published, published_after, published_after_count, publishes, room_of}
use Rattle.sched.specs.Worlds.{AreAcceptedFor, AreProgramsOf, ArePortsOf, IsBankOf, IsFor, IsJudging, IsPortOf, IsShownAs, IsWorld, IsWorldOf, PortValue, RunValue, WorldValue, node_with}

-- one more after several
pub published_more : (firsts : List (ℕ × Program)) (made : ℕ × Program) (count slot : ℕ) (before : Program × ℕ)
    → published_after (firsts ++ made ∷ []) count slot before
    ≡ published_after_count (Some made) (count + length firsts) slot (published_after firsts count slot before)
published_more [] made count slot before = ap (λ (k : ℕ). published_after_count (Some made) k slot before) (omega arith)
published_more (first ∷ rest) made count slot before =
    published_more rest made (count + 1) slot (published_after_count (Some first) count slot before)
    ∙ ap (λ (k : ℕ). published_after_count (Some made) k slot (published_after rest (count + 1) slot (published_after_count (Some first) count slot before))) (omega arith)

-- programs that are published before the first event are justified, and so is what is published before any event
pub justified_after : (n : Node) (firsts : List (ℕ × Program)) (count slot : ℕ) (before : Program × ℕ)
    → All (λ (made : ℕ × Program). IsJustified made.1 n.sizes) firsts → IsJustified before.0 n.sizes
    → IsJustified (published_after firsts count slot before).0 n.sizes
justified_after n [] count slot before all first = first
justified_after n (made ∷ more) count slot before all first =
    justified_after n more (count + 1) slot (if made.0 == slot then (made.1, count + 1) else before) (All-tail (λ (m : ℕ × Program). IsJustified m.1 n.sizes) made more all) (by (made.0 == slot))
  where
    by : (own : Bool) → IsJustified (if own then (made.1, count + 1) else before).0 n.sizes
    by true = All-head (λ (m : ℕ × Program). IsJustified m.1 n.sizes) made more all
    by false = first

-- a program that is shown in its slot
first_shown : (n : Node) (old : ℕ → Program × ℕ) (programs : List (AcceptedValue × ℕ)) (slot generation : ℕ) (a : AcceptedValue)
    → IsFor n a → AreProgramsOf n old programs
    → AreProgramsOf n (λ s. if slot == s then (a.program, generation) else old s) (set programs slot (a, generation))
first_shown n old programs slot generation a accepted are = λ s x found. by s x found (slot == s) refl
  where
    by : (s : ℕ) (x : AcceptedValue × ℕ) → slice_get (set programs slot (a, generation)) s ≡ Some x → (own : Bool) → (slot == s) ≡ own → IsShownAs n (if own then (a.program, generation) else old s) x
    by s x found true own =
        let same = eqb-true slot s own in
        let within : s < length programs = rw (← length-set programs slot (a, generation)) (slice_get_within (set programs slot (a, generation)) s x found) in
        let inside : slot < length programs = rw same within in
        let is : x ≡ (a, generation) = sym (get_or_from_slice_get (set programs slot (a, generation)) s x x found) ∙ get_or-set_at programs slot s (a, generation) x (sym same) inside in
        rw is (record { program = refl; generation = refl; accepted = accepted })
    by s x found false own = are s x (at_other programs slot s (a, generation) x (λ e. eqb-false slot s own (sym e)) found)

-- before any event no command is judged, of whichever node
none_judged : (n m : Node) (port : ℕ) (run : Option RunValue) → IsJudging n port None run → IsJudging m port None run
none_judged n m port None is = is
none_judged n m port (Some r) is = is

-- so a port is that of the node with one program more
port_again : (n m : Node) (port : ℕ) (staged : Staged) (entries_of : ℕ → List EntryValue) (p : PortValue) → n.banks ≡ m.banks
    → IsPortOf n port staged None entries_of p → IsPortOf m port staged None entries_of p
port_again n m port staged entries_of p banks is = record {
  staging_is = is.staging_is;
  judging = none_judged n m port p.run is.judging;
  count = is.count ∙ ap length banks;
  shares = is.shares;
}

-- and so is a bank
bank_again : (n m : Node) (k : ℕ) (es : List EntryValue) (memory : Memory) (b : BankValue) → n.banks ≡ m.banks → n.ports ≡ m.ports
    → IsBankOf n k es memory b → IsBankOf m k es memory b
bank_again n m k es memory b banks ports is = record {
  base_is = is.base_is ∙ ap (λ (l : List BankConfig). first_memory (slice_get l k)) banks;
  memory_is = is.memory_is;
  entries_are = is.entries_are;
  room = is.room ∙ ap (λ (l : List BankConfig). room_of (slice_get l k)) banks;
  ports = is.ports ∙ ports;
  counts = λ port there. is.counts port (subst (λ (many : ℕ). port < many) (sym ports) there);
}

-- the world with the program in its slot, as the next that was published
abbrev pub first_world : WorldValue → ℕ → AcceptedValue → WorldValue
first_world w slot a = record w { programs = set w.programs slot (a, w.count + 1); count = w.count + 1 }

world_more : (n : Node) (w : WorldValue) (slot : ℕ) (a : AcceptedValue) → IsFirstOfWorld w.sizes (slot, a) → IsJustified a.program a.sizes
    → IsWorldOf n Start w → IsWorldOf (with_first n (slot, a.program)) Start (first_world w slot a)
world_more n w slot a first justified old =
    let sizes : a.sizes ≡ n.sizes = first.1 ∙ old.sizes_are in
    let accepted : IsFor n a = record { sizes = sizes; justified = subst (λ (maps : Maps). IsJustified a.program maps) sizes justified } in
    let m = with_first n (slot, a.program) in
    let number : w.count + 1 ≡ length n.firsts + 1 = ap (λ (k : ℕ). k + 1) old.count_is in
    let following : (s : ℕ) → published m Start s ≡ (if slot == s then (a.program, w.count + 1) else published n Start s) = λ s.
    published_more n.firsts (slot, a.program) 0 s (n.factory, 0)
    ∙ ap (λ (k : ℕ). if slot == s then (a.program, k) else published n Start s) (omega (arith, number)) in
    let shown = first_shown n (published n Start) w.programs slot (w.count + 1) a accepted old.programs_are in
    record {
      windows_are = old.windows_are;
      sizes_are = old.sizes_are;
      banks_are = record { count = old.banks_are.count; each = λ k b at. bank_again n m k _ _ b refl refl (old.banks_are.each k b at) };
      words_are = old.words_are;
      programs_are = λ s x found.
          let here = shown s x found in
          subst (λ (p : Program × ℕ). IsShownAs m p x) (sym (following s)) (record { program = here.program; generation = here.generation; accepted = record { sizes = here.accepted.sizes; justified = here.accepted.justified } });
      count_is = number ∙ sym (length-append n.firsts ((slot, a.program) ∷ []));
      ports_are = record { count = old.ports_are.count; each = λ port p at. port_again n m port _ _ p refl (old.ports_are.each port p at) };
    }

node_more : (n : Node) (w : WorldValue) (slot : ℕ) (a : AcceptedValue) → IsFirstOfWorld w.sizes (slot, a) → IsJustified a.program a.sizes
    → n.sizes ≡ w.sizes → IsNode n → IsNode (with_first n (slot, a.program))
node_more n w slot a first justified sizes node = record {
  few_ports = node.few_ports;
  factory = node.factory;
  firsts = All-push (λ (m : ℕ × Program). IsJustified m.1 n.sizes) n.firsts (slot, a.program) node.firsts (subst (λ (maps : Maps). IsJustified a.program maps) (first.1 ∙ sym sizes) justified);
}

-- it adds the program
pub adds_first : (w : WorldValue) (slot : ℕ) (a : AcceptedValue) → IsFirstOfWorld w.sizes (slot, a) → IsJustified a.program a.sizes
    → AddsFirst (slot, a) w (first_world w slot a)
adds_first w slot a first justified = record {
  world = λ n old. world_more n w slot a first justified old;
  node = λ n sizes node. node_more n w slot a first justified sizes node;
  sizes = refl;
  count = refl;
}

-- it is a world
pub first_fits : (w : WorldValue) (slot : ℕ) (a : AcceptedValue) → IsFirstOfWorld w.sizes (slot, a) → IsWorld w → IsWorld (first_world w slot a)
first_fits w slot a first fits = record {
  cells = fits.cells;
  slots = length-set w.programs slot (a, w.count + 1) ∙ fits.slots;
  accepted = λ s x found. by s x found (slot == s) refl;
  few_ports = fits.few_ports;
  ports = fits.ports;
}
  where
    by : (s : ℕ) (x : AcceptedValue × ℕ) → slice_get (set w.programs slot (a, w.count + 1)) s ≡ Some x → (own : Bool) → (slot == s) ≡ own → x.0.sizes ≡ w.sizes
    by s x found true own =
        let same = eqb-true slot s own in
        let within : s < length w.programs = rw (← length-set w.programs slot (a, w.count + 1)) (slice_get_within (set w.programs slot (a, w.count + 1)) s x found) in
        let inside : slot < length w.programs = rw same within in
        let is : x ≡ (a, w.count + 1) = sym (get_or_from_slice_get (set w.programs slot (a, w.count + 1)) s x x found) ∙ get_or-set_at w.programs slot s (a, w.count + 1) x (sym same) inside in
        rw is first.1
    by s x found false own = fits.accepted s x (at_other w.programs slot s (a, w.count + 1) x (λ e. eqb-false slot s own (sym e)) found)

-- the programs up to the next one
firsts_next : (firsts : List (ℕ × AcceptedValue)) (index : ℕ) (first d : ℕ × AcceptedValue) → index < length firsts → first ≡ get_or firsts index d
    → map slot_with_program (take (index + 1) firsts) ≡ map slot_with_program (take index firsts) ++ slot_with_program first ∷ []
firsts_next firsts index first d below is =
    ap (map slot_with_program) (take_more firsts index d below ∙ ap (λ (x : ℕ × AcceptedValue). take index firsts ++ x ∷ []) (sym is))
    ∙ map-append slot_with_program (take index firsts) (first ∷ [])

module _ (config : NodeConfig) (factory : Program) (firsts : List (ℕ × AcceptedValue)) (index : ℕ) (first d : ℕ × AcceptedValue) (old new : WorldValue)
    (below : index < length firsts) (is : first ≡ get_or firsts index d) (adds : AddsFirst first old new) where
  -- the world has one program more
  pub firsts_world : IsWorldOf (node_with config factory (map slot_with_program (take index firsts))) Start old
      → IsWorldOf (node_with config factory (map slot_with_program (take (index + 1) firsts))) Start new
  firsts_world was =
      subst (λ (l : List (ℕ × Program)). IsWorldOf (node_with config factory l) Start new) (sym (firsts_next firsts index first d below is))
      (adds.world (node_with config factory (map slot_with_program (take index firsts))) was)

  -- so has its node
  pub firsts_node : config.sizes ≡ old.sizes → IsNode (node_with config factory (map slot_with_program (take index firsts)))
      → IsNode (node_with config factory (map slot_with_program (take (index + 1) firsts)))
  firsts_node sizes was =
      subst (λ (l : List (ℕ × Program)). IsNode (node_with config factory l)) (sym (firsts_next firsts index first d below is))
      (adds.node (node_with config factory (map slot_with_program (take index firsts))) sizes was)
