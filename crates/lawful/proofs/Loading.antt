-- How a judged command ends in the boot window: at the port's staging, or as a control write.
use Rattle.std.proofs.Common.{◌≡◌, ◌==◌, ◌+◌, ◌<◌, ◌≤◌, ℕ, Bool, true, false, cond, List, [], ◌∷◌, ◌++◌, length, Option, Some, None, Ok, refl, sym, ap, subst, ◌∙◌, inl, inr, arith, length-append}
use Rattle.std.specs.Prelude.{if◌then◌else◌, option_map}
use mathlib.Core.List.{IsPrefix}
use Rattle.spw.specs.Cargo.{Cargo}
use Rattle.rmap.specs.declared.boot.TheConstants.{LOAD_REGISTER}
use Rattle.rmap.specs.declared.boot_records.ControlData.{ControlData}
use Rattle.rmap.specs.declared.places.Place.{Place}
use Rattle.rmap.specs.declared.places.Place.TheVariants as places
use Rattle.rmap.specs.declared.status.Status.{Status}
use Rattle.rmap.specs.declared.status.Status.TheVariants.{Success, GeneralError}
use Rattle.rmap.specs.BootRecords.{control_of}
use Rattle.rmap.specs.Command.{command_of}
use Rattle.rmap.specs.Reply.{reply_of}
use Rattle.bank.specs.Answer.{answer, effect_at, judged_line}
use Rattle.bank.specs.Effect.{memory_at}
use Rattle.bank.specs.Records.{EntryValue}
use Rattle.bpf.specs.Laws.{ImagesAreRead}
use Rattle.bpf.specs.Program.{Program}
use Rattle.bpf.specs.Reading.{image_reading}
use Rattle.brun.specs.declared.turns.Turn.{Turn}
use Rattle.brun.specs.declared.turns.Turn.TheVariants as turns
use Rattle.bver.specs.Justified.{AcceptedValue}
use Rattle.machine.specs.Sizes.{Maps}
use Rattle.node_programs.specs.declared.publishes.Publish.{Publish}
use Rattle.node_programs.specs.Histories.{entry, longer_history}
use Rattle.node_programs.specs.Laws.{IsSetByNext}
use Rattle.node_programs.specs.Published.{judging_program, sizes_of}
use Rattle.node_programs.specs.Staged.{Staged, staged}
use Rattle.node_parts.specs.Loaded.{EndsAs, HasLoaded, HasRefused}
use Rattle.node_parts.specs.Loads.{IsPrepared, IsUnprepared, loaded_bytes, published_result, refused_result}
use Rattle.node_parts.specs.Outcomes.{IsLoad}
use Rattle.node_parts.specs.Outcomes as loads
use Rattle.node_parts.specs.Passes.{PassValue}
use Rattle.node_parts.specs.Served.{EndsAtWindow, IsStagedAt}
use Rattle.node_parts.specs.Stagings.{after_place, answer_at_place}
use Rattle.annals.specs.Chains.{Due}
use Rattle.target.specs.Loads.{AsksForLoad}
use Rattle.ports.specs.Due.{Judging, Standing}
use Rattle.sched.specs.Agreement.{program_and_generation}
use Rattle.sched.specs.declared.event.Event.{Event}
use Rattle.sched.specs.declared.event.Event.TheVariants.{Effect, Publish as Publishes}
use Rattle.sched.specs.declared.event.Outcome.{Outcome}
use Rattle.sched.specs.declared.event.Outcome.TheVariants.{Done}
use Rattle.sched.specs.History.{History, Then, Open, opened, port_of}
use Rattle.sched.specs.Lawful.{IsControlled, IsPublishedAt, IsPublishedBy, IsPublishOutcome, IsOutcomeAtExceptAnswer, done, effect_at_place, effect_at_turn, effect_outcome}
use Rattle.sched.specs.Looking.{Node, counted_publish, entries, entries_at, entries_after, for_slot, loaded_by, place_in, program_loaded, published, published_at, published_after_count, publishes, staged_at, staged_after, staging, turn_of}
use Rattle.lawful.specs.Alone.{IsRefusedForStaged}
use Rattle.lawful.specs.Happenings.{ending}
use Rattle.lawful.proofs.Growing.{made as programs_made, none_made, one_made}
use Rattle.lawful.proofs.Idling.{IsKnown}
use Rattle.lemmas.proofs.Prefixes.{prefix_whole}

-- ---- what is told

-- if a command of the port has its verdict, its end by an Effect is by its place
pub effect_reported : (n : Node) (h : History) (port verdict : ℕ) (o : Open) (place : Place) → opened h port ≡ Some o → turn_of n port o ≡ Some (turns.Verdict verdict) → place_in n o.packet ≡ Some place
    → effect_outcome n h port (opened h port) ≡ effect_at_place n h port (command_of o.packet) verdict (Some place)
effect_reported n h port verdict o place is stands lies =
    ap (effect_outcome n h port) is ∙ (ap (effect_at_turn n h port o) stands ∙ ap (effect_at_place n h port (command_of o.packet) verdict) lies)

-- and its end by a Publish, at a control write, is by what stops it
pub publish_reported : (n : Node) (h : History) (port verdict : ℕ) (o : Open) (outcome : Outcome) → opened h port ≡ Some o → turn_of n port o ≡ Some (turns.Verdict verdict) → place_in n o.packet ≡ Some places.Control
    → IsControlled n h port (command_of o.packet) (judged_line (command_of o.packet) verdict) outcome → IsPublishOutcome n h port (opened h port) outcome
publish_reported n h port verdict o outcome is stands lies reported =
    subst (λ (last : Option Open). IsPublishOutcome n h port last outcome) (sym is)
    (subst (λ (turn : Option Turn). IsPublishedBy n h port o turn outcome) (sym stands)
    (subst (λ (place : Option Place). IsPublishedAt n h port (command_of o.packet) verdict place outcome) (sym lies) reported))

-- the entries of each bank after a command that was done at that place
pub entries_done : (n : Node) (h : History) (event : Event) (status : Status) (reply : List ℕ) (loaded : Option (List ℕ)) (o : Open) (place : Option Place) → opened h (port_of event) ≡ Some o → place_in n o.packet ≡ place
    → (k : ℕ) → entries n (Then h event (Done status reply loaded)) k ≡ entries_at n k (port_of event) place o status (entries n h k)
entries_done n h event status reply loaded o place is lies k =
    ap (λ (last : Option Open). entries_after n k (port_of event) last status (entries n h k)) is ∙ ap (λ (p : Option Place). entries_at n k (port_of event) p o status (entries n h k)) lies

-- ---- what is known

-- after an event that published nothing the same is published
pub quiet_known : (n : Node) (h : History) (e : Event) (o : Outcome) (programs later : List Publish) → published_at n h e o ≡ None → later ≡ programs → IsKnown n h programs → IsKnown n (Then h e o) later
quiet_known n h e o programs later none same known = subst (λ (xs : List Publish). IsKnown n (Then h e o) xs) (sym same) (record {
  shown = λ slot. known.shown slot ∙ ap (λ (x : Option (ℕ × Program)). Some (published_after_count x (publishes n h) slot (published n h slot))) (sym none);
  count = known.count ∙ ap (λ (x : Option (ℕ × Program)). counted_publish x (publishes n h) + 1) (sym none);
  sizes = known.sizes;
})

spelled_program : (law : ImagesAreRead) (body bytes : List ℕ) (sizes : Maps) (slot : ℕ) (a : AcceptedValue) → IsPrepared (control_of body) bytes sizes slot a → program_loaded body bytes ≡ Some (slot, a.program)
spelled_program law body bytes sizes slot a is =
    let read : image_reading (loaded_bytes (control_of body) bytes) ≡ Ok a.program = ap image_reading is.spelled ∙ law a.program is.is_program in
    ap (for_slot (control_of body).slot) read ∙ ap (λ (s : ℕ). Some (s, a.program)) (sym is.slot_is)

-- a load of the port's command that succeeded published its program
pub loaded_program : (law : ImagesAreRead) (n : Node) (h : History) (port slot : ℕ) (o : Open) (a : AcceptedValue) (reply result : List ℕ) → opened h port ≡ Some o
    → IsPrepared (control_of (command_of o.packet).body) (staging n h port).bytes n.sizes slot a → published_at n h (Publishes port) (Done Success reply (Some result)) ≡ Some (slot, a.program)
loaded_program law n h port slot o a reply result is prepared =
    ap (loaded_by (staging n h port).bytes) is ∙ spelled_program law (command_of o.packet).body (staging n h port).bytes n.sizes slot a prepared

sizes_longer : (old : List Publish) (x : Publish) → 0 < length old → sizes_of (old ++ x ∷ []) ≡ sizes_of old
sizes_longer [] x some = absurd (omega (arith, some))
sizes_longer (f ∷ ps) x some = refl

-- after a load that published a program, it is known with the next generation
made_known : IsSetByNext → (n : Node) (h : History) (e : Event) (o : Outcome) (old new : List Publish) (slot : ℕ) (a : AcceptedValue) → published_at n h e o ≡ Some (slot, a.program) → new ≡ longer_history old slot a
    → IsKnown n h old → IsKnown n (Then h e o) new
made_known next n h e o old new slot a made more known =
    let some : 0 < length old = let count = known.count in omega (arith, count) in
    let generation : length old ≡ publishes n h + 1 = known.count in
    subst (λ (xs : List Publish). IsKnown n (Then h e o) xs) (sym more) (record {
      shown = λ k. ap (option_map program_and_generation) (next old slot a k some) ∙ (by k generation (slot == k) ∙ ap (λ (x : Option (ℕ × Program)). Some (published_after_count x (publishes n h) k (published n h k))) (sym made));
      count = length-append old (entry slot a ∷ []) ∙ (ap (λ (x : ℕ). x + 1) generation ∙ ap (λ (x : Option (ℕ × Program)). counted_publish x (publishes n h) + 1) (sym made));
      sizes = sizes_longer old (entry slot a) some ∙ known.sizes;
    })
  where
    by : (k : ℕ) → length old ≡ publishes n h + 1 → (own : Bool)
        → option_map program_and_generation (cond own (Some (a, length old)) (judging_program old k)) ≡ Some (if own then (a.program, publishes n h + 1) else published n h k)
    by k generation true = ap (λ (x : ℕ). Some (a.program, x)) generation
    by k generation false = known.shown k

-- ---- how a command ends

-- after a command that has its verdict its end is lawful, and leaves the staging and the programs that the port has
-- then
pub record EndsThus (n : Node) (port : ℕ) (now : History) (o : Open) (e : Event) (reply : List ℕ) (old after : PassValue) : Type 0 where
  pub status : Status
  pub loaded : Option (List ℕ)
  pub outcome : IsOutcomeAtExceptAnswer n now e (Done status reply loaded)
  pub staging_is : staged_after n (Some o) status loaded old.staging ≡ after.staging
  pub known : IsKnown n (Then now e (Done status reply loaded)) after.programs
  pub banks : (k : ℕ) → entries n (Then now e (Done status reply loaded)) k ≡ entries n now k

-- what is known when a command has its verdict, which was judged as that
pub record IsNow (n : Node) (port : ℕ) (now : History) (o : Open) (j : Judging) (old : PassValue) : Type 0 where
  pub is_open : opened now port ≡ Some o
  pub stands : turn_of n port o ≡ Some (turns.Verdict j.judged.verdict)
  pub lies : place_in n o.packet ≡ Some j.judged.place
  pub packet : j.judged.packet ≡ o.packet
  pub staging_is : staging n now port ≡ old.staging
  pub known : IsKnown n now old.programs

-- what is known of the port around the end
pub record IsAround (j : Judging) (old : PassValue) (first last : Standing) (after : PassValue) : Type 0 where
  pub staging_same : first.pass.staging ≡ old.staging
  pub programs_same : first.pass.programs ≡ old.programs
  pub last_is : last.pass ≡ after
  pub few : length after.programs ≤ length old.programs + programs_made j.loaded
  pub refused : j.judged.place ≡ places.Control → judged_line (command_of j.judged.packet) j.judged.verdict ≡ None → j.loaded ≡ None → IsRefusedForStaged first last j

module _ (n : Node) (port : ℕ) (now : History) (o : Open) (j : Judging) (old : PassValue) (is : IsNow n port now o j old) where
  -- at the staging, or at the load result
  staged_thus : (place : Place) → j.judged.place ≡ place → (after : PassValue) (result : Status) (reply : List ℕ) → IsStagedAt old after j.judged result reply → after.programs ≡ old.programs
      → ((k : ℕ) (status : Status) (es : List EntryValue) → entries_at n k port (Some place) o status es ≡ es)
      → effect_at_place n now port (command_of o.packet) j.judged.verdict (Some place) ≡ done (answer_at_place place old.staging j.judged)
      → staged_at (Some place) (answer_at_place place old.staging j.judged).status (command_of o.packet) old.staging ≡ after_place place old.staging j.judged
      → EndsThus n port now o (Effect port) reply old after
  staged_thus place at after result reply end programs quiet reported staging_reported =
      let lies : place_in n o.packet ≡ Some place = is.lies ∙ ap (λ (x : Place). Some x) at in
      let a = answer_at_place place old.staging j.judged in
      let status : result ≡ a.status = end.staged.status ∙ ap (λ (x : Place). (answer_at_place x old.staging j.judged).status) at in
      let reply_is : reply ≡ a.reply = end.staged.reply ∙ ap (λ (x : Place). (answer_at_place x old.staging j.judged).reply) at in
      let lawful : Done result reply None ≡ effect_outcome n now port (opened now port) =
      ap (λ (s : Status). Done s reply None) status ∙ (ap (λ (bytes : List ℕ). Done a.status bytes None) reply_is ∙ sym (effect_reported n now port j.judged.verdict o place is.is_open is.stands lies ∙ reported)) in
      record {
        status = result;
        loaded = None;
        outcome = lawful;
        staging_is =
            ap (λ (x : Option Place). staged_at x result (command_of o.packet) old.staging) lies
            ∙ (ap (λ (s : Status). staged_at (Some place) s (command_of o.packet) old.staging) status
            ∙ (staging_reported ∙ sym (end.staged.staging ∙ ap (λ (x : Place). after_place x old.staging j.judged) at)));
        known = quiet_known n now (Effect port) (Done result reply None) old.programs after.programs refl programs is.known;
        banks = λ k. entries_done n now (Effect port) result reply None o (Some place) is.is_open lies k ∙ quiet k result (entries n now k);
      }

  -- a control write that something stops
  stopped_thus : j.judged.place ≡ places.Control → (status : Status) → judged_line (command_of o.packet) j.judged.verdict ≡ Some status → (after : PassValue) (result : Status) (reply : List ℕ) → result ≡ status → after ≡ old
      → reply ≡ reply_of (command_of o.packet) result [] → EndsThus n port now o (Publishes port) reply old after
  stopped_thus at status line after result reply result_is same reply_is =
      let lies : place_in n o.packet ≡ Some places.Control = is.lies ∙ ap (λ (x : Place). Some x) at in
      let reported : Done result reply None ≡ Done status (reply_of (command_of o.packet) status []) None =
      ap (λ (bytes : List ℕ). Done result bytes None) reply_is ∙ ap (λ (s : Status). Done s (reply_of (command_of o.packet) s []) None) result_is in
      record {
        status = result;
        loaded = None;
        outcome = publish_reported n now port j.judged.verdict o (Done result reply None) is.is_open is.stands lies
            (subst (λ (x : Option Status). IsControlled n now port (command_of o.packet) x (Done result reply None)) (sym line) reported);
        staging_is = ap (λ (x : Option Place). staged_at x result (command_of o.packet) old.staging) lies ∙ sym (ap (λ (x : PassValue). x.staging) same);
        known = quiet_known n now (Publishes port) (Done result reply None) old.programs after.programs refl (ap (λ (x : PassValue). x.programs) same) is.known;
        banks = λ k. entries_done n now (Publishes port) result reply None o (Some places.Control) is.is_open lies k;
      }

  -- a load that published its program, the next after those that the port knew
  pub loaded_thus : ImagesAreRead → IsSetByNext → j.judged.place ≡ places.Control → judged_line (command_of o.packet) j.judged.verdict ≡ None → (after : PassValue) (before new : List Publish) (result : Status) (reply : List ℕ)
      → before ≡ old.programs → HasLoaded old after before new j.judged result → reply ≡ reply_of (command_of o.packet) result [] → EndsThus n port now o (Publishes port) reply old after
  loaded_thus images next at line after before new result reply same end reply_is =
      let lies : place_in n o.packet ≡ Some places.Control = is.lies ∙ ap (λ (x : Place). Some x) at in
      let it = end.published in
      let count : length before ≡ publishes n now + 1 = ap length same ∙ is.known.count in
      let sizes : sizes_of before ≡ n.sizes = ap sizes_of same ∙ is.known.sizes in
      let bytes : old.staging.bytes ≡ (staging n now port).bytes = ap (λ (s : Staged). s.bytes) (sym is.staging_is) in
      let c = command_of o.packet in
      let control : control_of (command_of j.judged.packet).body ≡ control_of c.body = ap (λ (p : Cargo). control_of (command_of p).body) is.packet in
      let load : IsLoad (control_of c.body) (staging n now port).bytes n.sizes (publishes n now + 1) (loads.Published it.slot it.program) =
      subst (λ (x : ControlData). IsLoad x (staging n now port).bytes n.sizes (publishes n now + 1) (loads.Published it.slot it.program)) control
      (subst (λ (x : List ℕ). IsLoad (control_of (command_of j.judged.packet).body) x n.sizes (publishes n now + 1) (loads.Published it.slot it.program)) bytes
      (subst (λ (x : Maps). IsLoad (control_of (command_of j.judged.packet).body) old.staging.bytes x (publishes n now + 1) (loads.Published it.slot it.program)) sizes
      (subst (λ (x : ℕ). IsLoad (control_of (command_of j.judged.packet).body) old.staging.bytes (sizes_of before) x (loads.Published it.slot it.program)) count it.load))) in
      let loaded = published_result end.generation in
      let generation : end.generation ≡ publishes n now + 1 = it.place ∙ count in
      let reported : Done result reply (Some loaded) ≡ Done Success (reply_of c Success []) (Some (published_result (publishes n now + 1))) =
      ap (λ (bs : List ℕ). Done result bs (Some loaded)) reply_is
      ∙ (ap (λ (s : Status). Done s (reply_of c s []) (Some loaded)) end.status ∙ ap (λ (x : ℕ). Done Success (reply_of c Success []) (Some (published_result x))) generation) in
      let success : Done result reply (Some loaded) ≡ Done Success reply (Some loaded) = ap (λ (s : Status). Done s reply (Some loaded)) end.status in
      let made : published_at n now (Publishes port) (Done result reply (Some loaded)) ≡ Some (it.slot, it.program.program) =
      ap (published_at n now (Publishes port)) success ∙ loaded_program images n now port it.slot o it.program reply loaded is.is_open load.0 in
      let before_known : IsKnown n now before = subst (λ (xs : List Publish). IsKnown n now xs) (sym same) is.known in
      record {
        status = result;
        loaded = Some loaded;
        outcome = publish_reported n now port j.judged.verdict o (Done result reply (Some loaded)) is.is_open is.stands lies
            (subst (λ (x : Option Status). IsControlled n now port c x (Done result reply (Some loaded))) (sym line) (record { load = loads.Published it.slot it.program; decides = load; reported = reported }));
        staging_is = sym (ap (λ (x : PassValue). x.staging) end.holder_after);
        known = made_known next n now (Publishes port) (Done result reply (Some loaded)) before after.programs it.slot it.program made (it.learnt ∙ it.extends) before_known;
        banks = λ k. entries_done n now (Publishes port) result reply (Some loaded) o (Some places.Control) is.is_open lies k;
      }

  -- a load that was refused for what was staged
  refused_thus : j.judged.place ≡ places.Control → judged_line (command_of o.packet) j.judged.verdict ≡ None → (first last : Standing) (after : PassValue) (before new : List Publish) (result : Status) (reply : List ℕ)
      → first.pass.staging ≡ old.staging → first.pass.programs ≡ old.programs → last.pass ≡ after → IsRefusedForStaged first last j → HasRefused old after before new j.judged result → reply ≡ reply_of (command_of o.packet) result []
      → EndsThus n port now o (Publishes port) reply old after
  refused_thus at line first last after before new result reply staging_same programs_same last_is why end reply_is =
      let lies : place_in n o.packet ≡ Some places.Control = is.lies ∙ ap (λ (x : Place). Some x) at in
      let c = command_of o.packet in
      let control : control_of (command_of j.judged.packet).body ≡ control_of c.body = ap (λ (p : Cargo). control_of (command_of p).body) is.packet in
      let bytes : first.pass.staging.bytes ≡ (staging n now port).bytes = ap (λ (s : Staged). s.bytes) (staging_same ∙ sym is.staging_is) in
      let sizes : sizes_of first.pass.programs ≡ n.sizes = ap sizes_of programs_same ∙ is.known.sizes in
      let unprepared : IsUnprepared (control_of c.body) (staging n now port).bytes n.sizes why.refusal =
      subst (λ (x : ControlData). IsUnprepared x (staging n now port).bytes n.sizes why.refusal) control
      (subst (λ (x : List ℕ). IsUnprepared (control_of (command_of j.judged.packet).body) x n.sizes why.refusal) bytes
      (subst (λ (x : Maps). IsUnprepared (control_of (command_of j.judged.packet).body) first.pass.staging.bytes x why.refusal) sizes why.unprepared)) in
      let loaded = refused_result why.refusal in
      let staging_after : after.staging ≡ staged old.staging.bytes (refused_result end.refusal) = ap (λ (x : PassValue). x.staging) end.holder_after in
      let same_result : refused_result end.refusal ≡ loaded =
      sym (ap (λ (s : Staged). s.load_result) staging_after) ∙ (ap (λ (x : PassValue). x.staging.load_result) (sym last_is) ∙ why.reported) in
      let failed : Done result reply (Some loaded) ≡ Done GeneralError reply (Some loaded) = ap (λ (s : Status). Done s reply (Some loaded)) end.status in
      let reported : Done result reply (Some loaded) ≡ Done GeneralError (reply_of c GeneralError []) (Some loaded) =
      ap (λ (bs : List ℕ). Done result bs (Some loaded)) reply_is ∙ ap (λ (s : Status). Done s (reply_of c s []) (Some loaded)) end.status in
      record {
        status = result;
        loaded = Some loaded;
        outcome = publish_reported n now port j.judged.verdict o (Done result reply (Some loaded)) is.is_open is.stands lies
            (subst (λ (x : Option Status). IsControlled n now port c x (Done result reply (Some loaded))) (sym line) (record { load = loads.Refused why.refusal; decides = inl unprepared; reported = reported }));
        staging_is = sym (staging_after ∙ ap (staged old.staging.bytes) same_result);
        known = quiet_known n now (Publishes port) (Done result reply (Some loaded)) old.programs after.programs (ap (published_at n now (Publishes port)) failed) (ap (λ (x : PassValue). x.programs) end.holder_after) is.known;
        banks = λ k. entries_done n now (Publishes port) result reply (Some loaded) o (Some places.Control) is.is_open lies k;
      }

  -- a control write
  line_thus : ImagesAreRead → IsSetByNext → (line : Option Status) → judged_line (command_of o.packet) j.judged.verdict ≡ line → j.judged.place ≡ places.Control
      → (q : ℕ) (asked asks : List Due) (first last : Standing) (after : PassValue) (before new : List Publish) (result : Status) (reply : List ℕ) → IsAround j old first last after → IsPrefix old.programs before
      → AsksForLoad q j.loaded before new asked asks → EndsAs line old after before new j.judged result → reply ≡ reply_of (command_of o.packet) result [] → EndsThus n port now o (Publishes port) reply old after
  line_thus images next (Some status) line at q asked asks first last after before new result reply around begins asked_for end reply_is =
      stopped_thus at status line after result reply end.0 end.1 reply_is
  line_thus images next None line at q asked asks first last after before new result reply around begins asked_for (inl end) reply_is =
      let one = one_made q j.loaded before new asked asks (entry end.published.slot end.published.program) asked_for end.published.extends in
      let many = ap length end.published.extends ∙ length-append before (entry end.published.slot end.published.program ∷ []) in
      let learnt = ap length end.published.learnt in
      let few = around.few in
      let short : length before ≤ length old.programs = omega (arith, one, many, learnt, few) in
      loaded_thus images next at line after before new result reply (sym (prefix_whole old.programs before begins short)) end reply_is
  line_thus images next None line at q asked asks first last after before new result reply around begins asked_for (inr end) reply_is =
      let own_line : judged_line (command_of j.judged.packet) j.judged.verdict ≡ None = ap (λ (p : Cargo). judged_line (command_of p) j.judged.verdict) is.packet ∙ line in
      let why = around.refused at own_line (none_made q j.loaded before new asked asks asked_for end.same) in
      refused_thus at line first last after before new result reply around.staging_same around.programs_same around.last_is why end reply_is

  pub window_thus : ImagesAreRead → IsSetByNext → (place : Place) → j.judged.place ≡ place
      → (q : ℕ) (asked asks : List Due) (first last : Standing) (after : PassValue) (before new : List Publish) (result : Status) (reply : List ℕ) → IsAround j old first last after → IsPrefix old.programs before
      → AsksForLoad q j.loaded before new asked asks → EndsAtWindow place old after before new j.judged result reply → EndsThus n port now o (ending place port) reply old after
  window_thus images next (places.Bank k) at q asked asks first last after before new result reply around begins asked_for end = absurd end
  window_thus images next places.Staging at q asked asks first last after before new result reply around begins asked_for end =
      let bytes = old.staging.bytes in
      staged_thus places.Staging at after result reply end.0 (ap (λ (x : PassValue). x.programs) end.0.rest) (λ k status es. refl)
      (ap (λ (s : Staged). done (answer (memory_at 0 s.bytes) true (command_of o.packet) j.judged.verdict)) is.staging_is
      ∙ ap (λ (p : Cargo). done (answer (memory_at 0 bytes) true (command_of p) j.judged.verdict)) (sym is.packet))
      (ap (λ (p : Cargo). staged (effect_at (answer_at_place places.Staging old.staging j.judged).status (memory_at 0 bytes) (command_of p)).memory.bytes old.staging.load_result) (sym is.packet))
  window_thus images next places.LoadResult at q asked asks first last after before new result reply around begins asked_for end =
      staged_thus places.LoadResult at after result reply end.0 (ap (λ (x : PassValue). x.programs) end.0.rest) (λ k status es. refl)
      (ap (λ (s : Staged). done (answer (memory_at LOAD_REGISTER s.load_result) true (command_of o.packet) j.judged.verdict)) is.staging_is
      ∙ ap (λ (p : Cargo). done (answer (memory_at LOAD_REGISTER old.staging.load_result) true (command_of p) j.judged.verdict)) (sym is.packet))
      refl
  window_thus images next places.Control at q asked asks first last after before new result reply around begins asked_for end =
      line_thus images next (judged_line (command_of o.packet) j.judged.verdict) refl at q asked asks first last after before new result reply around begins asked_for
      (subst (λ (p : Cargo). EndsAs (judged_line (command_of p) j.judged.verdict) old after before new j.judged result) is.packet end.ended)
      (end.reply ∙ ap (λ (p : Cargo). reply_of (command_of p) result []) is.packet)
