-- The publishes that a port asked for are those of its worker's loads.
use Rattle.std.proofs.Common.{◌≡◌, ◌⊎◌, ℕ, List, [], ◌∷◌, ◌++◌, Option, None, Some, refl, sym, ap, ◌∙◌, subst, append_assoc, inl, inr}
use Rattle.std.specs.Prelude.{IfSome, IfNone}
use Rattle.std.proofs.lemmas.List.{append-nil}
use Rattle.spw.specs.Cargo.{Cargo}
use Rattle.bank.specs.Records.{EntryValue, entry_of}
use Rattle.node_programs.specs.declared.publishes.Publish.{Publish}
use Rattle.node_parts.specs.Applied.{share_of}
use Rattle.annals.specs.declared.deed.Act.TheVariants.{Leaves}
use Rattle.annals.specs.declared.deed.HistoryEntry.{HistoryEntry}
use Rattle.annals.specs.Chains.{Due, done_for}
use Rattle.annals.specs.Publishes.{EntriesAreNoLoads, LoadsAreListed, loads_in}
use Rattle.target.specs.Loads.{AsksForLoad}
use Rattle.ports.specs.Due.{Judging, Deed, Standing, stand, Worked, IsBanked, IsWindowEnd, IsJudgedInRun, judgings}
use Rattle.ports.specs.Due.Deed.{Dropped, Answered, Judged}
use Rattle.ports.specs.Laws.{WorkersPublishesAreAll, publishes_of_commands, with_loaded}
use Rattle.ports.proofs.Following.{worked_stays}

module _ (no_loads : EntriesAreNoLoads) (listed : LoadsAreListed) where
  -- an entry that was asked for, or none, is no publish
  entry_loads : (number : Option ℕ) (bank : ℕ) (e : EntryValue) (asked asks : List Due) → IfSome number (λ n. asks ≡ asked ++ (bank, Leaves e) ∷ []) → IfNone number (asks ≡ asked) → loads_in asks ≡ loads_in asked
  entry_loads None bank e asked asks some none = ap loads_in none
  entry_loads (Some n) bank e asked asks some none = ap loads_in some ∙ no_loads bank asked e

  banked_loads : (j : Judging) (h after : Standing) → IsBanked j h after → loads_in after.asked ≡ loads_in h.asked ++ with_loaded j.loaded []
  banked_loads j h after is =
      let end = is.ended in
      let same = entry_loads end.result.number end.before.chain.number (entry_of (share_of h.pass j.judged.place) j.judged end.result.status) h.asked after.asked end.asks_for.entry end.asks_for.nothing in
      same ∙ (sym (append-nil (loads_in h.asked)) ∙ ap (λ (o : Option Publish). loads_in h.asked ++ with_loaded o []) (sym is.loaded))

  load_loads : (loaded : Option Publish) (port : ℕ) (old new : List Publish) (asked asks : List Due) → AsksForLoad port loaded old new asked asks → loads_in asks ≡ loads_in asked ++ with_loaded loaded []
  load_loads None port old new asked asks is = ap loads_in is.1 ∙ sym (append-nil (loads_in asked))
  load_loads (Some publish) port old new asked asks is = ap loads_in is.1 ∙ listed port asked publish

  end_loads : (j : Judging) (h after : Standing) → IsBanked j h after ⊎ IsWindowEnd j h after → loads_in after.asked ≡ loads_in h.asked ++ with_loaded j.loaded []
  end_loads j h after (inl banked) = banked_loads j h after banked
  end_loads j h after (inr windowed) = load_loads j.loaded h.pass.port windowed.old windowed.new h.asked after.asked windowed.asks_for

  with_rest : (o : Option Publish) (ps : List Publish) → with_loaded o [] ++ ps ≡ with_loaded o ps
  with_rest None ps = refl
  with_rest (Some p) ps = refl

  -- the port asked for the publishes of its commands, in order
  pub loads_asked : (h after : Standing) (ps : List Cargo) (ds : List Deed) → Worked h ps ds after → loads_in after.asked ≡ loads_in h.asked ++ publishes_of_commands (judgings ds)
  loads_asked h after [] [] w = ap (λ (x : Standing). loads_in x.asked) w ∙ sym (append-nil (loads_in h.asked))
  loads_asked h after [] (d ∷ ds) w = absurd w
  loads_asked h after (p ∷ ps) [] w = absurd w
  loads_asked h after (p ∷ ps) (Dropped ∷ ds) w =
      loads_asked w.0 after ps ds w.2 ∙ ap (λ (x : Standing). loads_in x.asked ++ publishes_of_commands (judgings ds)) w.1.same
  loads_asked h after (p ∷ ps) (Answered reply ∷ ds) w =
      loads_asked w.0 after ps ds w.2 ∙ ap (λ (x : Standing). loads_in x.asked ++ publishes_of_commands (judgings ds)) w.1.same
  loads_asked h after (p ∷ ps) (Judged j ∷ ds) w =
      let rest = publishes_of_commands (judgings ds) in
      let one = end_loads j (stand w.1.between h.asked w.1.reached) w.0 w.1.ended in
      loads_asked w.0 after ps ds w.2
      ∙ (ap (λ (l : List Publish). l ++ rest) one
      ∙ (append_assoc (loads_in h.asked) (with_loaded j.loaded []) rest
      ∙ ap (λ (l : List Publish). loads_in h.asked ++ l) (with_rest j.loaded rest)))

  pub publishes_are_all : WorkersPublishesAreAll
  publishes_are_all h after ps ds log w is =
      let own : done_for h.pass.port log ≡ after.asked = subst (λ (port : ℕ). done_for port log ≡ after.asked) (worked_stays h after ps ds w).port is in
      ap loads_in own ∙ loads_asked h after ps ds w
