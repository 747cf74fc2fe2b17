-- What a thread did at a fresh port, the only one that was served, is a lawful history, apart from what cells answered.
use Rattle.std.proofs.Common.{◌≡◌, ◌==◌, ◌+◌, ◌<◌, ◌≤◌, ◌&&◌, ℕ, zero, suc, Bool, true, false, cond, List, [], ◌∷◌, ◌++◌, length, map, Option, Some, None, refl, sym, ap, subst, ◌∙◌, inl, inr, arith, append_assoc}
use Rattle.std.specs.Prelude.{slice_get}
use Rattle.std.specs.List.{range_with_len}
use Rattle.std.proofs.lemmas.Bool.Decides.{nat_tests}
use Rattle.std.proofs.lemmas.List.{append-nil, length-map}
use Rattle.std.proofs.lemmas.Option.{slice_get_within}
use mathlib.Core.List.{IsPrefix}
use Rattle.spw.specs.Cargo.{Cargo}
use Rattle.rmap.specs.declared.places.Place.{Place}
use Rattle.rmap.specs.declared.places.Place.TheVariants as places
use Rattle.rmap.specs.declared.status.Status.{Status}
use Rattle.rmap.specs.Windows.{WindowsValue}
use Rattle.bank.specs.Records.{EntryValue, is_bank_place, numbers_of}
use Rattle.bpf.specs.Laws.{ImagesAreRead}
use Rattle.machine.specs.Laws.{RunsFromTheFront}
use Rattle.node_programs.specs.declared.publishes.Publish.{Publish}
use Rattle.node_programs.specs.Laws.{IsSetByNext}
use Rattle.node_parts.specs.declared.config.BankConfig.{BankConfig}
use Rattle.node_parts.specs.Applied.{share_of}
use Rattle.node_parts.specs.Nodes.{range_of}
use Rattle.node_parts.specs.Passes.{PassValue}
use Rattle.annals.specs.declared.deed.HistoryEntry.{HistoryEntry}
use Rattle.annals.specs.Banks.{entries_of}
use Rattle.ports.specs.Due.{Deed, IsDealt, IsJudgedInRun, Judging, Standing, Worked, judgings, stand}
use Rattle.ports.specs.Due.Deed.{Dropped, Answered, Judged}
use Rattle.ports.specs.Laws.{SharesCount, WorkersSharesCount, entry_count_at, is_bank_of, is_entry_at, publishes_of_commands, next_number_at}
use Rattle.sched.specs.declared.event.Event.{Event}
use Rattle.sched.specs.declared.event.Event.TheVariants.{Take, Effect}
use Rattle.sched.specs.declared.event.Outcome.TheVariants.{Done, Taken}
use Rattle.sched.specs.History.{History, Start, Then, Open, port_of}
use Rattle.sched.specs.Looking.{Node, entries, staged_after, staging}
use Rattle.sched.specs.Turns.{answers_of_calls}
use Rattle.sched.specs.Agreement.{PublishedAgrees, slot_and_program}
use Rattle.lawful.specs.Alone.{AreDealtInFull, IsDealtInFull, IsFreshPort, IsJudgedInFull, IsOwnBank, OnePortIsLawful}
use Rattle.sched.specs.Lawful.{IsOutcomeAtExceptAnswer}
use Rattle.lawful.specs.Happenings.{Happening, HappenBy, ending, happened_at, happening, answered_calls}
use Rattle.lawful.proofs.Entering.{bank_staging, bank_thus, finished_front}
use Rattle.lawful.proofs.Growing.{banked_programs, dealt_grown, judged_grown, loads_first, made, made_by, taken_longer, worked_grown}
use Rattle.lawful.proofs.Idling.{HasDealt, HasGone, IsIdle, IsKnown, IsLeftSoFar, dropped, gone_on, known_kept, left_kept, replied}
use Rattle.lawful.proofs.Keeping.{apart, itself, elsewhere_on, elsewhere_same, happened_here, one_elsewhere, opened_here, staging_here}
use Rattle.lawful.proofs.Loading.{IsAround, IsNow, quiet_known, window_thus}
use Rattle.lawful.proofs.Owning.{entries_prefix, own_so_far, range_length}
use Rattle.lawful.proofs.Taking.{HasVerdict, taken}
use Rattle.lawful.proofs.Reporting.{asking, outcome_here, answered_history}
use Rattle.lemmas.proofs.Prefixes.{prefix_length, prefix_same, prefix_self, prefix_trans, prefix_whole}

-- ---- what one command counts

one_at : (k : ℕ) (j : Judging) (b : Bool) → is_entry_at k j ≡ b → entry_count_at k (Judged j ∷ []) ≡ length (cond b (j ∷ []) [])
one_at k j b is = ap (λ (t : Bool). length (cond t (j ∷ []) [])) is

-- what the shares of a port count after one command
pub one_counted : WorkersSharesCount → (d : Deed) (p : Cargo) (s after : Standing) → IsDealt d p s after → SharesCount s.pass after.pass (d ∷ [])
one_counted counts d p s after is = counts s after (p ∷ []) (d ∷ []) (after, is, refl)

counted_one : (k : ℕ) (j : Judging) (s after : PassValue) → SharesCount s after (Judged j ∷ []) → k < length s.shares → is_entry_at k j ≡ true → next_number_at after k ≡ next_number_at s k + 1
counted_one k j s after count below is = let number = count.numbers k below in let one = one_at k j true is in omega (arith, number, one)

counted_none : (k : ℕ) (j : Judging) (s after : PassValue) → SharesCount s after (Judged j ∷ []) → k < length s.shares → is_entry_at k j ≡ false → next_number_at after k ≡ next_number_at s k
counted_none k j s after count below is = let number = count.numbers k below in let none = one_at k j false is in omega (arith, number, none)

entry_here : (k : ℕ) (j : Judging) → j.entered ≡ true → j.judged.place ≡ places.Bank k → is_entry_at k j ≡ true
entry_here k j left place = ap (λ (b : Bool). b && is_bank_of k j.judged.place) left ∙ (ap (is_bank_of k) place ∙ itself k)

entry_elsewhere : (k m : ℕ) (j : Judging) → j.entered ≡ true → j.judged.place ≡ places.Bank k → (m ≡ k → ⊥) → is_entry_at m j ≡ false
entry_elsewhere k m j left place other = ap (λ (b : Bool). b && is_bank_of m j.judged.place) left ∙ (ap (is_bank_of m) place ∙ apart k m other)

no_entry : (k : ℕ) (j : Judging) → j.entered ≡ false → is_entry_at k j ≡ false
no_entry k j none = ap (λ (b : Bool). b && is_bank_of k j.judged.place) none

-- a bank of a number below the number of windows is there
pub record IsThere (xs : List BankConfig) (k : ℕ) : Type 0 where
  pub bank : BankConfig
  pub is : slice_get xs k ≡ Some bank

pub there_at : (xs : List BankConfig) (k : ℕ) → k < length (map range_of xs) → IsThere xs k
there_at [] k below = absurd (omega (arith, below))
there_at (x ∷ xs) zero below = record { bank = x; is = refl }
there_at (x ∷ xs) (suc k) below = let rest = there_at xs k (omega (arith, below)) in record { bank = rest.bank; is = rest.is }

pub ending_port : (place : Place) (port : ℕ) → port_of (ending place port) ≡ port
ending_port (places.Bank k) port = refl
ending_port places.Staging port = refl
ending_port places.LoadResult port = refl
ending_port places.Control port = refl

pub bank_is : (place : Place) (k : ℕ) → place ≡ places.Bank k → is_bank_place place ≡ true
bank_is place k at = ap is_bank_place at

-- ---- one command

-- a command that has its verdict was done: what its port has then, and what happened
done_dealt : (n : Node) (port : ℕ) (start : List HistoryEntry) (p : Cargo) (j : Judging) (h now : History) (s after : Standing) (between : PassValue) (e : Event) (status : Status) (loaded : Option (List ℕ)) → port < n.ports
    → IsIdle n port start h s → HasVerdict n port h now p j → between.staging ≡ s.pass.staging → SharesCount s.pass after.pass (Judged j ∷ []) → IsPrefix s.front after.front → e ≡ ending j.judged.place port
    → IsOutcomeAtExceptAnswer n now e (Done status j.reply loaded) → staged_after n (Some (asking p j.judged.generation h (answers_of_calls j.calls))) status loaded between.staging ≡ after.pass.staging
    → IsKnown n (Then now e (Done status j.reply loaded)) after.pass.programs
    → ((k : ℕ) (bank : BankConfig) → slice_get n.banks k ≡ Some bank → IsLeftSoFar (entries n (Then now e (Done status j.reply loaded)) k) k after)
    → HasDealt n port start (Judged j) p h after
done_dealt n port start p j h now s after between e status loaded there idle verdict staging_same count begins ending_is outcome staging_reported known banks =
    let o = asking p j.judged.generation h (answers_of_calls j.calls) in
    let ended = Done status j.reply loaded in
    let next = Then now e ended in
    let own : port_of e ≡ port = ap port_of ending_is ∙ ending_port j.judged.place port in
    let staging_is : staging n next port ≡ after.pass.staging =
    staging_here n now e ended port own
    ∙ (ap (λ (x : Option Open). staged_after n x status loaded (staging n now port)) verdict.is_open
    ∙ (ap (staged_after n (Some o) status loaded) (verdict.keeps.own ∙ (idle.staging_is ∙ sym staging_same)) ∙ staging_reported)) in
    let first = happening (Take port p) (Taken j.judged.generation) ∷ answered_calls port j.calls in
    record {
      after = next;
      idle = record {
        lawful = (verdict.lawful, outcome_here n now e ended port own there outcome);
        closed = opened_here now e ended port own;
        staging_is = staging_is;
        known = known;
        port_is = count.port ∙ idle.port_is;
        windows = count.windows ∙ idle.windows;
        shares = count.count ∙ idle.shares;
        began = prefix_trans start s.front after.front idle.began begins;
        banks = banks;
      };
      happened = first ++ happening (ending j.judged.place port) ended ∷ [];
      is = happened_here now e ended port own
          ∙ (ap (λ (xs : List Happening). xs ++ happening e ended ∷ []) verdict.happened
          ∙ (append_assoc (happened_at port h) first (happening e ended ∷ []) ∙ ap (λ (x : Event). happened_at port h ++ (first ++ happening x ended ∷ [])) ending_is));
      by = record { status = status; loaded = loaded; is = refl };
      elsewhere = elsewhere_on n port h now next verdict.keeps.elsewhere (one_elsewhere n now e ended port own);
    }

-- the list of the node, of which all that banks have is the port's
abbrev AreOwn : (n : Node) (port : ℕ) (whole : List HistoryEntry) → Type 0
AreOwn n port whole = (k : ℕ) (bank : BankConfig) → slice_get n.banks k ≡ Some bank → IsOwnBank port k bank whole

-- a bank's entries after a command at that bank
left_after : (n : Node) (port k m : ℕ) (bank : BankConfig) (now next : History) (o : Open) (j : Judging) (s after : Standing) → length s.pass.shares ≡ length n.banks → slice_get n.banks m ≡ Some bank
    → SharesCount s.pass after.pass (Judged j ∷ []) → IsPrefix s.front after.front → j.entered ≡ true → j.judged.place ≡ places.Bank k → IsLeftSoFar (entries n now m) m s
    → entries n next k ≡ entries_of k after.front → length (entries_of k after.front) ≡ length (entries n now k) + 1 → ((i : ℕ) → (i ≡ k → ⊥) → entries n next i ≡ entries n now i)
    → IsLeftSoFar (entries n next m) m after
left_after n port k m bank now next o j s after shares there count begins left place so_far own more others = by (m == k) refl
  where
    below : m < length s.pass.shares
    below = let within = slice_get_within n.banks m bank there in omega (arith, within, shares)

    by : (b : Bool) → (m == k) ≡ b → IsLeftSoFar (entries n next m) m after
    by true is =
        let same : k ≡ m = grind (arith, nat_tests, is) in
        let own_m : entries n next m ≡ entries_of m after.front = subst (λ (i : ℕ). entries n next i ≡ entries_of i after.front) same own in
        let more_m : length (entries_of m after.front) ≡ length (entries n now m) + 1 = subst (λ (i : ℕ). length (entries_of i after.front) ≡ length (entries n now i) + 1) same more in
        let number = counted_one m j s.pass after.pass count below (entry_here m j left (place ∙ ap places.Bank same)) in
        let before = so_far.number in
        let size = ap length own_m in
        record {
          begin = prefix_same (entries n next m) (entries_of m after.front) (sym own_m);
          number = omega (arith, number, before, size, more_m);
        }
    by false is =
        let other : m ≡ k → ⊥ = λ same. absurd (grind (arith, nat_tests, is, same)) in
        let same = others m other in
        let number = counted_none m j s.pass after.pass count below (entry_elsewhere k m j left place other) in
        let front = prefix_trans (entries n now m) (entries_of m s.front) (entries_of m after.front) so_far.begin (entries_prefix m s.front after.front begins) in
        record {
          begin = subst (λ (xs : List EntryValue). IsPrefix xs (entries_of m after.front)) (sym same) front;
          number = ap length same ∙ (so_far.number ∙ sym number);
        }

-- a bank's entries after a command that ended elsewhere
left_still : (n : Node) (m : ℕ) (bank : BankConfig) (now next : History) (j : Judging) (s after : Standing) → length s.pass.shares ≡ length n.banks → slice_get n.banks m ≡ Some bank
    → SharesCount s.pass after.pass (Judged j ∷ []) → IsPrefix s.front after.front → j.entered ≡ false → IsLeftSoFar (entries n now m) m s → entries n next m ≡ entries n now m → IsLeftSoFar (entries n next m) m after
left_still n m bank now next j s after shares there count begins none so_far same =
    let within = slice_get_within n.banks m bank there in
    let number = counted_none m j s.pass after.pass count (omega (arith, within, shares)) (no_entry m j none) in
    let front = prefix_trans (entries n now m) (entries_of m s.front) (entries_of m after.front) so_far.begin (entries_prefix m s.front after.front begins) in
    record {
      begin = subst (λ (xs : List EntryValue). IsPrefix xs (entries_of m after.front)) (sym same) front;
      number = ap length same ∙ (so_far.number ∙ sym number);
    }

-- the laws of the crates below that this one needs
pub record Laws : Type 0 where
  pub front : RunsFromTheFront
  pub images : ImagesAreRead
  pub next : IsSetByNext
  pub counts : WorkersSharesCount
  pub agrees : PublishedAgrees

judged_dealt : Laws → (n : Node) (port : ℕ) (start whole : List HistoryEntry) (p : Cargo) (j : Judging) (h : History) (s after : Standing) → port < n.ports → AreOwn n port whole → IsIdle n port start h s
    → (is : IsJudgedInRun j p s after) → IsJudgedInFull s after j → length after.pass.programs ≤ length s.pass.programs + made j.loaded → IsPrefix after.front whole → HasDealt n port start (Judged j) p h after
judged_dealt laws n port start whole p j h s after there own idle is full few begins =
    let grown = judged_grown j p s after is in
    let same : is.between.programs ≡ s.pass.programs =
    sym (prefix_whole s.pass.programs is.between.programs (taken_longer j p s after is) (omega (arith, grown, few))) in
    let g = j.judged.generation in
    let now = answered_history port j.calls (Then h (Take port p) (Taken g)) in
    let seen : IsKnown n h is.between.programs = subst (λ (xs : List Publish). IsKnown n h xs) (sym same) idle.known in
    let verdict = taken laws.front n port p j h s after there idle.lawful idle.closed idle.windows idle.port_is is seen in
    let o = asking p g h (answers_of_calls j.calls) in
    let middle = stand is.between s.asked is.reached in
    let count = one_counted laws.counts (Judged j) p s after is in
    let staging_same : is.between.staging ≡ s.pass.staging = ap (λ (x : PassValue). x.staging) is.judgement.asked in
    let known : IsKnown n now is.between.programs = known_kept n port h now is.between.programs verdict.keeps seen in
    let here : IsNow n port now o j is.between = record {
      is_open = verdict.is_open;
      stands = verdict.stands;
      lies = verdict.lies;
      packet = is.judgement.judged_for.packet;
      staging_is = verdict.keeps.own ∙ (idle.staging_is ∙ sym staging_same);
      known = known;
    } in
    let moment : IsPrefix s.front is.reached = prefix_trans s.front is.moment.at is.reached is.moment.after is.moment.before in
    let so_far : (k : ℕ) (bank : BankConfig) → slice_get n.banks k ≡ Some bank → IsLeftSoFar (entries n now k) k s =
    λ k bank at. left_kept (entries n h k) (entries n now k) k s (verdict.keeps.banks k) (idle.banks k bank at) in
    elim is.ended [
      | inl banked ↦
          let k = banked.number in
          let left = full.entered (bank_is j.judged.place k banked.place) in
          let placed = is.judgement.judged_for.placed.inside k banked.place in
          let bank = there_at n.banks k (subst (λ (w : WindowsValue). k < length w.banks) idle.windows placed.below) in
          let port_is : j.judged.port ≡ port = is.judgement.judged_for.port_of ∙ idle.port_is in
          let number : next_number_at is.between k ≡ next_number_at s.pass k = ap (λ (x : PassValue). next_number_at x k) is.judgement.asked in
          let end = bank_thus n port k bank.bank whole now o j s middle after bank.is (own k bank.bank bank.is) here refl port_is banked.place left banked moment begins (so_far k bank.bank bank.is) number in
          let later : IsPrefix s.front after.front = prefix_trans s.front is.reached after.front moment end.grown in
          let programs : after.pass.programs ≡ is.between.programs = banked_programs j middle after banked in
          done_dealt n port start p j h now s after is.between (Effect port) end.status None there idle verdict staging_same count later (sym (ap (λ (x : Place). ending x port) banked.place)) end.outcome
          (bank_staging n o j k end.status middle after verdict.lies banked.place banked)
          (quiet_known n now (Effect port) (Done end.status j.reply None) is.between.programs after.pass.programs refl programs known)
          (λ m at_m is_m. left_after n port k m at_m now (Then now (Effect port) (Done end.status j.reply None)) o j s after idle.shares is_m count later left banked.place (so_far m at_m is_m) end.own end.more end.others)
      | inr windowed ↦
          let e = ending j.judged.place port in
          let around : IsAround j is.between s after after.pass = record {
            staging_same = sym staging_same;
            programs_same = sym same;
            last_is = refl;
            few = subst (λ (xs : List Publish). length after.pass.programs ≤ length xs + made j.loaded) (sym same) few;
            refused = full.loads;
          } in
          let end = window_thus n port now o j is.between here laws.images laws.next j.judged.place refl is.between.port s.asked after.asked s after after.pass windowed.old windowed.new windowed.result j.reply around windowed.begins windowed.asks_for windowed.ended in
          let later : IsPrefix s.front after.front = prefix_trans s.front is.reached after.front moment windowed.front in
          done_dealt n port start p j h now s after is.between e end.status end.loaded there idle verdict staging_same count later refl end.outcome end.staging_is end.known
          (λ m at_m is_m. left_still n m at_m now (Then now e (Done end.status j.reply end.loaded)) j s after idle.shares is_m count later windowed.entered (so_far m at_m is_m) (end.banks m))
    ]

-- ---- all packets

-- the programs that a port knows of are as many more as it published, also by the first of its packets
few_first : (d : Deed) (p : Cargo) (ps : List Cargo) (ds : List Deed) (s last : Standing) (w : Worked s (p ∷ ps) (d ∷ ds) last) → length last.pass.programs ≤ length s.pass.programs + length (publishes_of_commands (judgings (d ∷ ds)))
    → length w.0.pass.programs ≤ length s.pass.programs + made_by d
few_first d p ps ds s last w few =
    let rest = worked_grown w.0 last ps ds w.2 in
    let first = loads_first d ds in
    omega (arith, few, rest, first)

few_rest : (d : Deed) (p : Cargo) (ps : List Cargo) (ds : List Deed) (s last : Standing) (w : Worked s (p ∷ ps) (d ∷ ds) last) → length last.pass.programs ≤ length s.pass.programs + length (publishes_of_commands (judgings (d ∷ ds)))
    → length last.pass.programs ≤ length w.0.pass.programs + length (publishes_of_commands (judgings ds))
few_rest d p ps ds s last w few =
    let here = dealt_grown d p s w.0 w.1 in
    let first = loads_first d ds in
    omega (arith, few, here, first)

-- what a port knows goes on
pub dealt_front : (d : Deed) (p : Cargo) (s after : Standing) → IsDealt d p s after → IsPrefix s.front after.front
dealt_front Dropped p s after is = prefix_same s.front after.front (ap (λ (x : Standing). x.front) is.same)
dealt_front (Answered reply) p s after is = prefix_same s.front after.front (ap (λ (x : Standing). x.front) is.same)
dealt_front (Judged j) p s after is =
    prefix_trans s.front is.reached after.front (prefix_trans s.front is.moment.at is.reached is.moment.after is.moment.before)
    (elim is.ended [
      | inl banked ↦
          let it = banked.ended in
          finished_front it.result.number is.between.programs it.before.chain.number is.reached after.front (share_of is.between j.judged.place) j.judged it.result j.reply it.finished.done it.finished.none
      | inr windowed ↦ windowed.front
    ])

pub worked_front : (s last : Standing) (ps : List Cargo) (ds : List Deed) → Worked s ps ds last → IsPrefix s.front last.front
worked_front s last [] [] w = prefix_same s.front last.front (ap (λ (x : Standing). x.front) w)
worked_front s last [] (d ∷ ds) w = absurd w
worked_front s last (p ∷ ps) [] w = absurd w
worked_front s last (p ∷ ps) (d ∷ ds) w = prefix_trans s.front w.0.front last.front (dealt_front d p s w.0 w.1) (worked_front w.0 last ps ds w.2)

dealt : Laws → (n : Node) (port : ℕ) (start whole : List HistoryEntry) (d : Deed) (p : Cargo) (h : History) (s after : Standing) → port < n.ports → AreOwn n port whole → IsIdle n port start h s
    → IsDealt d p s after → IsDealtInFull n d p s after → length after.pass.programs ≤ length s.pass.programs + made_by d → IsPrefix after.front whole → HasDealt n port start d p h after
dealt laws n port start whole Dropped p h s after there own idle is full few begins = dropped n port start p h s after there idle is
dealt laws n port start whole (Answered reply) p h s after there own idle is full few begins = replied n port start p reply h s after there idle full is
dealt laws n port start whole (Judged j) p h s after there own idle is full few begins = judged_dealt laws n port start whole p j h s after there own idle is full few begins

gone : Laws → (n : Node) (port : ℕ) (start whole : List HistoryEntry) (ps : List Cargo) (ds : List Deed) (h : History) (s last : Standing) (w : Worked s ps ds last) → port < n.ports → AreOwn n port whole → IsIdle n port start h s
    → AreDealtInFull n s ps ds last w → length last.pass.programs ≤ length s.pass.programs + length (publishes_of_commands (judgings ds)) → IsPrefix last.front whole → HasGone n port start ps ds h last
gone laws n port start whole [] [] h s last w there own idle full few begins = record {
  after = h;
  idle = subst (λ (x : Standing). IsIdle n port start h x) (sym w) idle;
  happened = [];
  is = sym (append-nil (happened_at port h));
  by = refl;
  elsewhere = elsewhere_same n port h;
}
gone laws n port start whole [] (d ∷ ds) h s last w there own idle full few begins = absurd w
gone laws n port start whole (p ∷ ps) [] h s last w there own idle full few begins = absurd w
gone laws n port start whole (p ∷ ps) (d ∷ ds) h s last w there own idle full few begins =
    let front = prefix_trans w.0.front last.front whole (worked_front w.0 last ps ds w.2) begins in
    let here = dealt laws n port start whole d p h s w.0 there own idle w.1 full.0 (few_first d p ps ds s last w few) front in
    gone_on n port start d ds p ps h w.0 last here
    (gone laws n port start whole ps ds here.after w.0 last w.2 there own here.idle full.1 (few_rest d p ps ds s last w few) begins)

-- ---- the law

fresh_idle : Laws → (n : Node) (s : Standing) → IsFreshPort n s → IsIdle n s.pass.port s.front Start s
fresh_idle laws n s fresh = record {
  lawful = tt;
  closed = refl;
  staging_is = sym fresh.staging_is;
  known = subst (λ (xs : List Publish). IsKnown n Start xs) (sym fresh.programs) (record {
    shown = λ slot. laws.agrees n Start (fresh.factory ∷ fresh.firsts) slot (fresh.program, fresh.firsts_are);
    count = (let many = length-map fresh.firsts slot_and_program in let same = ap length fresh.firsts_are in omega (arith, many, same));
    sizes = fresh.sizes;
  });
  port_is = refl;
  windows = fresh.windows;
  shares = fresh.shares;
  began = prefix_self s.front;
  banks = λ k bank there. record { begin = (entries_of k s.front, refl); number = sym (fresh.numbers k) };
}

-- the entries that the port left are all that the list has of the bank
all_entries : (n : Node) (port k : ℕ) (bank : BankConfig) (start whole : List HistoryEntry) (h : History) (last : Standing) → slice_get n.banks k ≡ Some bank → IsOwnBank port k bank whole → IsIdle n port start h last → IsPrefix last.front whole
    → IsPrefix (numbers_of last.pass.port (entries_of k whole)) (range_with_len 0 (share_of last.pass (places.Bank k)).number) → entries n h k ≡ entries_of k whole
all_entries n port k bank start whole h last there own idle begins counted =
    let left = idle.banks k bank there in
    let far = own_so_far port k bank whole whole own (prefix_self whole) in
    let mine : IsPrefix (numbers_of port (entries_of k whole)) (range_with_len 0 (next_number_at last.pass k)) =
    subst (λ (q : ℕ). IsPrefix (numbers_of q (entries_of k whole)) (range_with_len 0 (next_number_at last.pass k))) idle.port_is counted in
    let few = prefix_length (numbers_of port (entries_of k whole)) (range_with_len 0 (next_number_at last.pass k)) mine in
    let range = range_length 0 (next_number_at last.pass k) in
    let numbers = far.numbers in
    let number = left.number in
    prefix_whole (entries n h k) (entries_of k whole)
    (prefix_trans (entries n h k) (entries_of k last.front) (entries_of k whole) left.begin (entries_prefix k last.front whole begins))
    (omega (arith, few, range, numbers, number))

pub one_port_is_lawful : Laws → OnePortIsLawful
one_port_is_lawful laws = λ n first last ps ds whole served.
    let port = first.pass.port in
    let fresh = served.fresh in
    let all = gone laws n port first.front whole ps ds Start first last served.worked fresh.there served.banks (fresh_idle laws n first fresh) served.in_full served.loads served.begins in
    record {
      history = all.after;
      lawful = all.idle.lawful;
      happened = subst (λ (xs : List Happening). HappenBy port ps ds xs) (sym all.is) all.by;
      elsewhere = λ other apart_is. all.elsewhere.nothing other apart_is;
      closed = all.idle.closed;
      entries_are = λ k bank there.
          let within = slice_get_within n.banks k bank there in
          let shares = all.idle.shares in
          all_entries n port k bank first.front whole all.after last there (served.banks k bank there) all.idle served.begins (served.counted k (omega (arith, within, shares)));
      programs = all.idle.known.shown;
      staging_is = all.idle.staging_is;
    }
