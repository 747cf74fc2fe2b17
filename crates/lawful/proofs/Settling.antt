-- What ports do at a place of the list before the next link of it: they take commands, and end those that need no link.
use Rattle.std.proofs.Common.{◌≡◌, ◌+◌, ◌<◌, ◌≤◌, ◌⊎◌, ℕ, zero, suc, true, false, List, [], ◌∷◌, ◌++◌, length, Option, Some, None, refl, sym, ap, subst, ◌∙◌, inl, inr, arith, append_assoc}
use Rattle.std.proofs.lemmas.Bool.{cases_lt}
use mathlib.Core.List.{IsPrefix}
use Rattle.spw.specs.Cargo.{Cargo}
use Rattle.rmap.specs.declared.places.Place.{Place}
use Rattle.rmap.specs.declared.places.Place.TheVariants as places
use Rattle.rmap.specs.declared.status.Status.{Status}
use Rattle.rmap.specs.BootRecords.{control_of}
use Rattle.rmap.specs.Command.{command_of}
use Rattle.machine.specs.Sizes.{Maps}
use Rattle.bank.specs.Answer.{judged_line}
use Rattle.bank.specs.Records.{JudgedValue}
use Rattle.node_programs.specs.declared.publishes.Publish.{Publish}
use Rattle.node_programs.specs.Histories.{entry}
use Rattle.node_programs.specs.Published.{sizes_of}
use Rattle.node_programs.specs.Staged.{Staged}
use Rattle.node_parts.specs.Loaded.{EndsAs}
use Rattle.node_parts.specs.Loads.{IsUnprepared}
use Rattle.node_parts.specs.Passes.{PassValue}
use Rattle.node_parts.specs.Served.{EndsAtWindow}
use Rattle.annals.specs.declared.deed.HistoryEntry.{HistoryEntry}
use Rattle.annals.specs.Chains.{Due, done_for}
use Rattle.annals.specs.Shown.{AreListed, shown_in, shown_of}
use Rattle.target.specs.Loads.{AsksForLoad}
use Rattle.ports.specs.Due.{Deed, IsJudgedInRun, Judging, Standing, Worked, stand}
use Rattle.ports.specs.Due.Deed.{Dropped, Answered as Replied, Judged}
use Rattle.sched.specs.declared.event.Event.TheVariants.{Take}
use Rattle.sched.specs.declared.event.Outcome.TheVariants.{Done, Taken}
use Rattle.sched.specs.History.{History, Then, Open, port_of}
use Rattle.sched.specs.Looking.{Node, staged_after, staging}
use Rattle.sched.specs.Turns.{answers_of_calls}
use Rattle.lawful.specs.Alone.{AreDealtInFull, IsJudgedInFull, IsRefusedForStaged}
use Rattle.sched.specs.Lawful.{IsLawfulExceptAnswers}
use Rattle.lawful.specs.Happenings.{Happening, HappenBy, HappensBy, ending, happening, answered_calls}
use Rattle.lawful.specs.Together.{Account}
use Rattle.lawful.proofs.Placing.{AreLoadsPlaced, IsLoadPlaced}
use Rattle.lawful.proofs.Accounts.{IsFrom, PublishesNone, ended, from_front, moment_stands}
use Rattle.lawful.proofs.Alone.{Laws, ending_port, one_counted, worked_front}
use Rattle.lawful.proofs.Growing.{dealt_grown, made, one_made, taken_longer}
use Rattle.lawful.proofs.Idling.{HasPassed, IsKnown, dropped_thus, known_kept, replied_thus}
use Rattle.lawful.proofs.Keeping.{Keeps, StaysElsewhere, elsewhere_on, elsewhere_same, happened_here, one_elsewhere, opened_here, staging_here}
use Rattle.lawful.proofs.Links.{same_begin, seen_count}
use Rattle.lawful.proofs.Loading.{IsAround, IsNow, window_thus}
use Rattle.lawful.proofs.Taking.{taken}
use Rattle.lawful.proofs.Reporting.{asking, outcome_here, answered_history}
use Rattle.lawful.proofs.Worlds.{IsCommon, IsIdleBy, IsOf, IsOpen, IsOpenNow, IsPort, IsPortAt, IsStill, IsToEnter, IsToPublish, IsToShow, IsWorld, entry_at, nowhere_moved, port_moved, waits_for}
use Rattle.lemmas.proofs.Prefixes.{prefix_length, prefix_trans}

-- ---- what goes on

-- what is common stays if nothing was published and no entry left
common_kept : (n : Node) (q : ℕ) (pre : List HistoryEntry) (h after : History) → q < n.ports → Keeps n q h after → IsLawfulExceptAnswers n after → IsCommon n pre h → IsCommon n pre after
common_kept n q pre h after there keeps lawful common = record {
  lawful = lawful;
  known = λ some. known_kept n q h after (shown_of pre) keeps (common.known some);
  fresh = λ none. let was = common.fresh none in record { programs = λ slot. keeps.programs slot ∙ was.programs slot; count = keeps.count ∙ was.count };
  banks = λ k bank at. keeps.banks k ∙ common.banks k bank at;
  nowhere = nowhere_moved n q h after there keeps.elsewhere common.nowhere;
}

-- what happened so far, with what happens by one packet more
so_far_on : (q : ℕ) (a : Account) (p : Cargo) (ps : List Cargo) (d : Deed) (ds : List Deed) (before first rest : List Happening)
    → ((more : List Happening) → HappenBy q (p ∷ ps) (d ∷ ds) more → HappenBy q a.packets a.deeds (before ++ more)) → HappensBy d q p first → HappenBy q ps ds rest
    → HappenBy q a.packets a.deeds ((before ++ first) ++ rest)
so_far_on q a p ps d ds before first rest so_far by later =
    subst (λ (hs : List Happening). HappenBy q a.packets a.deeds hs) (sym (append_assoc before first rest)) (so_far (first ++ rest) (first, rest, refl, by, later))

-- a port that does not know less, as it was
of_same : (n : Node) (q : ℕ) (s after : Standing) → after ≡ s → IsOf n q s → IsOf n q after
of_same n q s after same was = subst (IsOf n q) (sym same) was

-- a port after a judged command
pub of_after : Laws → (n : Node) (q : ℕ) (j : Judging) (p : Cargo) (s after : Standing) → IsJudgedInRun j p s after → IsOf n q s → IsOf n q after
of_after laws n q j p s after is was =
    let count = one_counted laws.counts (Judged j) p s after is in
    let more = dealt_grown (Judged j) p s after is in
    let some = was.some in
    record {
      port_is = count.port ∙ was.port_is;
      windows = count.windows ∙ was.windows;
      some = omega (arith, more, some);
    }

-- ---- what a port does

-- a port did all that it does at this place
pub record HasSettled (n : Node) (whole : List HistoryEntry) (q : ℕ) (a : Account) (pre : List HistoryEntry) (h : History) : Type 0 where
  pub after : History
  pub common : IsCommon n pre after
  pub port : IsPort n whole q a true pre after None
  pub elsewhere : StaysElsewhere n q h after

settled_on : (n : Node) (whole : List HistoryEntry) (q : ℕ) (a : Account) (pre : List HistoryEntry) (h between : History) → StaysElsewhere n q h between → HasSettled n whole q a pre between → HasSettled n whole q a pre h
settled_on n whole q a pre h between stays it = record { after = it.after; common = it.common; port = it.port; elsewhere = elsewhere_on n q h between it.after stays it.elsewhere }

-- it did nothing
settled_here : (n : Node) (whole : List HistoryEntry) (q : ℕ) (a : Account) (pre : List HistoryEntry) (h : History) → IsCommon n pre h → IsPort n whole q a true pre h None → HasSettled n whole q a pre h
settled_here n whole q a pre h common port = record { after = h; common = common; port = port; elsewhere = elsewhere_same n q h }

-- a packet that no program judged
passed_on : (n : Node) (whole : List HistoryEntry) (q : ℕ) (a : Account) (pre : List HistoryEntry) (h : History) (s after : Standing) (p : Cargo) (ps : List Cargo) (d : Deed) (ds : List Deed) (idle : IsIdleBy n whole q a false pre h s (p ∷ ps) (d ∷ ds))
    → (it : HasPassed n q d p h) → after ≡ s → (worked : Worked after ps ds a.last) → AreDealtInFull n after ps ds a.last worked → AreLoadsPlaced q whole after ps ds a.last worked → IsFrom (length pre) after a.last ps ds worked
    → IsIdleBy n whole q a false pre it.after after ps ds
passed_on n whole q a pre h s after p ps d ds idle it same worked full placed from = record {
  worked = worked;
  full = full;
  placed = placed;
  from = from;
  still_is = tt;
  mine = of_same n q s after same idle.mine;
  happened = idle.happened ++ it.happened;
  here = record {
    command = it.closed;
    staging_is = it.keeps.own ∙ (idle.here.staging_is ∙ sym (ap (λ (x : Standing). x.pass.staging) same));
    happened = it.is ∙ ap (λ (hs : List Happening). hs ++ it.happened) idle.here.happened;
  };
  acts = idle.acts ∙ sym (ap (λ (x : Standing). length x.asked) same);
  so_far = λ rest by. so_far_on q a p ps d ds idle.happened it.happened rest idle.so_far it.by by;
}

regroup : (xs ys : List Happening) (z : Happening) (zs : List Happening) → (xs ++ (ys ++ z ∷ [])) ++ zs ≡ (xs ++ ys) ++ (z ∷ zs)
regroup xs ys z zs = ap (λ (l : List Happening). l ++ zs) (sym (append_assoc xs ys (z ∷ []))) ∙ append_assoc (xs ++ ys) (z ∷ []) zs

-- what happened so far, with a command that was taken, and with its end
so_far_open : (q : ℕ) (a : Account) (p : Cargo) (ps : List Cargo) (j : Judging) (ds : List Deed) (before : List Happening)
    → ((more : List Happening) → HappenBy q (p ∷ ps) (Judged j ∷ ds) more → HappenBy q a.packets a.deeds (before ++ more)) → (status : Status) (loaded : Option (List ℕ)) (rest : List Happening) → HappenBy q ps ds rest
    → HappenBy q a.packets a.deeds ((before ++ (happening (Take q p) (Taken j.judged.generation) ∷ answered_calls q j.calls)) ++ (happening (ending j.judged.place q) (Done status j.reply loaded) ∷ rest))
so_far_open q a p ps j ds before so_far status loaded rest later =
    let first = happening (Take q p) (Taken j.judged.generation) ∷ answered_calls q j.calls in
    let last = happening (ending j.judged.place q) (Done status j.reply loaded) in
    let thus : HappensBy (Judged j) q p (first ++ last ∷ []) = record { status = status; loaded = loaded; is = refl } in
    subst (λ (hs : List Happening). HappenBy q a.packets a.deeds hs) (regroup before first last rest)
    (so_far_on q a p ps (Judged j) ds before (first ++ last ∷ []) rest so_far thus later)

-- ---- the end of a command in the boot window that published nothing

-- the port then knows of the same programs
quiet_line : (port : ℕ) (line : Option Status) (asked asks : List Due) (h after : PassValue) (old new : List Publish) (j : JudgedValue) (result : Status) → AsksForLoad port None old new asked asks → EndsAs line h after old new j result
    → after.programs ≡ h.programs
quiet_line port (Some status) asked asks h after old new j result asks_for end = ap (λ (x : PassValue). x.programs) end.1
quiet_line port None asked asks h after old new j result asks_for (inl it) =
    let one = one_made port None old new asked asks (entry it.published.slot it.published.program) asks_for it.published.extends in absurd (omega (arith, one))
quiet_line port None asked asks h after old new j result asks_for (inr it) = ap (λ (x : PassValue). x.programs) it.holder_after

quiet_same : (place : Place) (port : ℕ) (asked asks : List Due) (h after : PassValue) (old new : List Publish) (j : JudgedValue) (result : Status) (reply : List ℕ) → AsksForLoad port None old new asked asks → EndsAtWindow place h after old new j result reply
    → after.programs ≡ h.programs
quiet_same (places.Bank k) port asked asks h after old new j result reply asks_for end = absurd end
quiet_same places.Staging port asked asks h after old new j result reply asks_for end = ap (λ (x : PassValue). x.programs) end.0.rest
quiet_same places.LoadResult port asked asks h after old new j result reply asks_for end = ap (λ (x : PassValue). x.programs) end.0.rest
quiet_same places.Control port asked asks h after old new j result reply asks_for end = quiet_line port (judged_line (command_of j.packet) j.verdict) asked asks h after old new j result asks_for end.ended

-- a list has the sizes of what begins it
sizes_longer : (xs ys : List Publish) → IsPrefix xs ys → 0 < length xs → sizes_of ys ≡ sizes_of xs
sizes_longer [] ys p some = absurd (omega (arith, some))
sizes_longer (x ∷ xs) [] p some = absurd (cc (p.1))
sizes_longer (x ∷ xs) (y ∷ ys) p some = let same : y ≡ x = cc (p.1) in ap (λ (z : Publish). z.program.sizes) same

-- what a load was refused for, by what the port has when it was judged
refused_then : (j : Judging) (s taken_at after : Standing) → taken_at.pass.staging ≡ s.pass.staging → sizes_of taken_at.pass.programs ≡ sizes_of s.pass.programs → IsRefusedForStaged s after j → IsRefusedForStaged taken_at after j
refused_then j s taken_at after staging_same sizes why = record {
  refusal = why.refusal;
  unprepared =
      subst (λ (x : Maps). IsUnprepared (control_of (command_of j.judged.packet).body) taken_at.pass.staging.bytes x why.refusal) (sym sizes)
      (subst (λ (x : Staged). IsUnprepared (control_of (command_of j.judged.packet).body) x.bytes (sizes_of s.pass.programs) why.refusal) (sym staging_same) why.unprepared);
  reported = why.reported;
}

asks_none : (port : ℕ) (loaded : Option Publish) (old new : List Publish) (asked after : List Due) → loaded ≡ None → AsksForLoad port loaded old new asked after → AsksForLoad port None old new asked after
asks_none port loaded old new asked after is asks = subst (λ (o : Option Publish). AsksForLoad port o old new asked after) is asks

-- it ended, and the port goes on with its next packet
record HasEndedQuietly (n : Node) (whole : List HistoryEntry) (q : ℕ) (a : Account) (pre : List HistoryEntry) (now : History) (after : Standing) (ps : List Cargo) (ds : List Deed) : Type 0 where
  following : History
  common : IsCommon n pre following
  idle : IsIdleBy n whole q a false pre following after ps ds
  elsewhere : StaysElsewhere n q now following

quiet_end : Laws → (n : Node) (whole : List HistoryEntry) (q : ℕ) (a : Account) (pre : List HistoryEntry) (now : History) (x : IsOpen n whole q a) → q < n.ports → IsOpenNow n whole q a now x → IsCommon n pre now → IsKnown n now x.is.between.programs
    → length n.firsts < shown_in pre → shown_of pre ≡ x.is.between.programs → length (done_for q pre) ≡ length x.s.asked → length pre ≤ length x.is.reached → PublishesNone x.j x.p x.s x.after x.is
    → HasEndedQuietly n whole q a pre now x.after x.ps x.ds
quiet_end laws n whole q a pre now x there here common known some seen acts few quiet =
    let j = x.j in
    let s = x.s in
    let after = x.after in
    let is = x.is in
    let it = quiet.windowed in
    let o = asking x.p j.judged.generation x.before (answers_of_calls j.calls) in
    let asks = asks_none is.between.port j.loaded it.old it.new s.asked after.asked quiet.none it.asks_for in
    let same = quiet_same j.judged.place is.between.port s.asked after.asked is.between after.pass it.old it.new j.judged it.result j.reply asks it.ended in
    let no_more = ap length same in
    let made_none : made j.loaded ≡ 0 = ap made quiet.none in
    let staging_same : is.between.staging ≡ s.pass.staging = ap (λ (y : PassValue). y.staging) is.judgement.asked in
    let e = ending j.judged.place q in
    let own : port_of e ≡ q = ending_port j.judged.place q in
    let at_end : IsNow n q now o j is.between = record {
      is_open = here.command;
      stands = x.stands;
      lies = x.lies;
      packet = is.judgement.judged_for.packet;
      staging_is = here.staging_is ∙ sym staging_same;
      known = known;
    } in
    let first = stand is.between s.asked is.reached in
    let around : IsAround j is.between first after after.pass = record {
      staging_same = refl;
      programs_same = refl;
      last_is = refl;
      few = omega (arith, no_more, made_none);
      refused = λ place line none. refused_then j s first after staging_same (sizes_longer s.pass.programs is.between.programs (taken_longer j x.p s after is) (let knows = x.mine.some in omega (arith, knows))) (x.full_here.loads place line none);
    } in
    let end = window_thus n q now o j is.between at_end laws.images laws.next j.judged.place refl is.between.port s.asked after.asked first after after.pass it.old it.new it.result j.reply around it.begins it.asks_for it.ended in
    let done = Done end.status j.reply end.loaded in
    let following = Then now e done in
    let stays = one_elsewhere n now e done q own in
    let programs : after.pass.programs ≡ shown_of pre = same ∙ sym seen in
    let known_after : IsKnown n following (shown_of pre) = subst (λ (ps : List Publish). IsKnown n following ps) programs end.known in
    record {
      following = following;
      common = record {
        lawful = (common.lawful, outcome_here n now e done q own there end.outcome);
        known = λ _. known_after;
        fresh = λ none. absurd (omega (arith, none, some));
        banks = λ k bank at. end.banks k ∙ common.banks k bank at;
        nowhere = nowhere_moved n q now following there stays common.nowhere;
      };
      idle = record {
        worked = x.worked;
        full = x.full;
        placed = x.placed;
        from = from_front (length pre) after a.last x.ps x.ds x.worked (let size = prefix_length is.reached after.front it.front in omega (arith, few, size));
        still_is = tt;
        mine = of_after laws n q j x.p s after is x.mine;
        happened = x.happened ++ happening e done ∷ [];
        here = record {
          command = opened_here now e done q own;
          staging_is = staging_here n now e done q own
              ∙ (ap (λ (c : Option Open). staged_after n c end.status end.loaded (staging n now q)) here.command
              ∙ (ap (staged_after n (Some o) end.status end.loaded) (here.staging_is ∙ sym staging_same) ∙ end.staging_is));
          happened = happened_here now e done q own ∙ ap (λ (hs : List Happening). hs ++ happening e done ∷ []) here.happened;
        };
        acts = acts ∙ sym (ap length asks.1);
        so_far = λ rest by. subst (λ (hs : List Happening). HappenBy q a.packets a.deeds hs) (sym (append_assoc x.happened (happening e done ∷ []) rest)) (x.so_far end.status end.loaded rest by);
      };
      elsewhere = stays;
    }

-- ---- what one port does

-- what is to come of a port is a judged command that is taken later, or nothing
still_port : (n : Node) (whole : List HistoryEntry) (q : ℕ) (a : Account) (pre : List HistoryEntry) (h : History) (s : Standing) (ps : List Cargo) (ds : List Deed) (idle : IsIdleBy n whole q a false pre h s ps ds)
    → IsFrom (length pre + 1) s a.last ps ds idle.worked → IsStill ps ds → IsPort n whole q a true pre h None
still_port n whole q a pre h s ps ds idle from still = record {
  at = inl (record {
    s = s;
    ps = ps;
    ds = ds;
    idle = record {
      worked = idle.worked;
      full = idle.full;
      placed = idle.placed;
      from = from;
      still_is = still;
      mine = idle.mine;
      happened = idle.happened;
      here = idle.here;
      acts = idle.acts;
      so_far = idle.so_far;
    };
  });
  wait_is = refl;
}

-- the place at which the next command is taken
taken_here : (pre at whole : List HistoryEntry) → IsPrefix pre whole → IsPrefix at whole → length pre ≤ length at → length at ≤ length pre → at ≡ pre
taken_here pre at whole stands at_stands low high = same_begin at pre whole at_stands stands (omega (arith, low, high))

-- a judged command comes next: it is taken here, or later
judged_next : Laws → (n : Node) (whole : List HistoryEntry) (q : ℕ) (a : Account) (pre : List HistoryEntry) (h : History) (s after : Standing) (p : Cargo) (j : Judging) (ps : List Cargo) (ds : List Deed) → q < n.ports → AreListed whole → IsPrefix pre whole → IsPrefix after.front whole
    → (is : IsJudgedInRun j p s after) → IsJudgedInFull s after j → IsLoadPlaced q whole j p s after is → (worked : Worked after ps ds a.last) → AreDealtInFull n after ps ds a.last worked → AreLoadsPlaced q whole after ps ds a.last worked
    → length pre ≤ length is.moment.at → (length pre < length is.moment.at → IsPort n whole q a true pre h None) → IsIdleBy n whole q a false pre h s (p ∷ ps) (Judged j ∷ ds) → IsCommon n pre h
    → ((later : History) → IsIdleBy n whole q a false pre later after ps ds → IsCommon n pre later → HasSettled n whole q a pre later) → HasSettled n whole q a pre h
judged_next laws n whole q a pre h s after p j ps ds there listed stands front is full_here placed_here worked full placed low stays idle common rest =
    elim (cases_lt (length pre) (length is.moment.at)) [
      | inl later ↦ settled_here n whole q a pre h common (stays later)
      | inr high ↦ take_it high
    ]
  where
    take_it : length is.moment.at ≤ length pre → HasSettled n whole q a pre h
    take_it high =
        let at_pre : is.moment.at ≡ pre = taken_here pre is.moment.at whole stands (moment_stands j p s after whole is front) low high in
        let seen : shown_of pre ≡ is.between.programs = ap shown_of (sym at_pre) ∙ is.moment.seen in
        let count = seen_count pre (listed pre stands) in
        let size = ap length seen in
        let longer = prefix_length s.pass.programs is.between.programs (taken_longer j p s after is) in
        let of_some = idle.mine.some in
        let some : length n.firsts < shown_in pre = omega (arith, count, size, longer, of_some) in
        let known : IsKnown n h is.between.programs = subst (λ (xs : List Publish). IsKnown n h xs) seen (common.known some) in
        let now = answered_history q j.calls (Then h (Take q p) (Taken j.judged.generation)) in
        let verdict = taken laws.front n q p j h s after there common.lawful idle.here.command idle.mine.windows idle.mine.port_is is known in
        let first = happening (Take q p) (Taken j.judged.generation) ∷ answered_calls q j.calls in
        let x : IsOpen n whole q a = record {
          s = s;
          after = after;
          p = p;
          j = j;
          is = is;
          full_here = full_here;
          ps = ps;
          ds = ds;
          worked = worked;
          full = full;
          placed = placed;
          mine = idle.mine;
          before = h;
          stands = verdict.stands;
          lies = verdict.lies;
          happened = idle.happened ++ first;
          so_far = λ status loaded more by. so_far_open q a p ps j ds idle.happened idle.so_far status loaded more by;
        } in
        let here : IsOpenNow n whole q a now x = record {
          command = verdict.is_open;
          staging_is = verdict.keeps.own ∙ idle.here.staging_is;
          happened = verdict.happened ∙ ap (λ (hs : List Happening). hs ++ first) idle.here.happened;
        } in
        let common_now = common_kept n q pre h now there verdict.keeps verdict.lawful common in
        let reached : length pre ≤ length is.reached = (let more = prefix_length is.moment.at is.reached is.moment.before in omega (arith, low, more)) in
        settled_on n whole q a pre h now verdict.keeps.elsewhere
        (elim (ended q whole j p s after is full_here placed_here) [
          | inl entry ↦
              let more = prefix_length is.reached (entry_at n whole q a x entry).before (entry_at n whole q a x entry).seen in
              settled_here n whole q a pre now common_now
              (record { at = inr (inl (record { open_at = x; here = here; acts = idle.acts; entry = entry; place = omega (arith, reached, more) })); wait_is = refl })
          | inr window ↦
              elim window [
                | inl quiet ↦
                    let it = quiet_end laws n whole q a pre now x there here common_now (known_kept n q h now is.between.programs verdict.keeps known) some seen idle.acts reached quiet in
                    settled_on n whole q a pre now it.following it.elsewhere (rest it.following it.idle it.common)
                | inr one ↦
                    let more = prefix_length is.reached one.placed.before one.placed.seen in
                    settled_here n whole q a pre now common_now
                    (record { at = inr (inr (inl (record { open_at = x; here = here; acts = idle.acts; one = one; place = omega (arith, reached, more) }))); wait_is = refl })
              ]
        ])

-- a port does all that it does at this place
settle : Laws → (n : Node) (whole : List HistoryEntry) (q : ℕ) (a : Account) (pre : List HistoryEntry) → q < n.ports → AreListed whole → IsPrefix pre whole → IsPrefix a.last.front whole
    → (ps : List Cargo) (ds : List Deed) (h : History) (s : Standing) → IsIdleBy n whole q a false pre h s ps ds → IsCommon n pre h → HasSettled n whole q a pre h
settle laws n whole q a pre there listed stands begins [] [] h s idle common =
    settled_here n whole q a pre h common (still_port n whole q a pre h s [] [] idle tt tt)
settle laws n whole q a pre there listed stands begins [] (d ∷ ds) h s idle common = absurd idle.worked
settle laws n whole q a pre there listed stands begins (p ∷ ps) [] h s idle common = absurd idle.worked
settle laws n whole q a pre there listed stands begins (p ∷ ps) (Dropped ∷ ds) h s idle common =
    let w = idle.worked in
    let it = dropped_thus n q p h s w.0 there common.lawful idle.here.command w.1 in
    let idle_on = passed_on n whole q a pre h s w.0 p ps Dropped ds idle it w.1.same w.2 idle.full.1 idle.placed idle.from in
    settled_on n whole q a pre h it.after it.keeps.elsewhere
    (settle laws n whole q a pre there listed stands begins ps ds it.after w.0 idle_on (common_kept n q pre h it.after there it.keeps it.lawful common))
settle laws n whole q a pre there listed stands begins (p ∷ ps) (Replied reply ∷ ds) h s idle common =
    let w = idle.worked in
    let it = replied_thus n q p reply h s w.0 there common.lawful idle.here.command idle.mine.windows idle.full.0 w.1 in
    let idle_on = passed_on n whole q a pre h s w.0 p ps (Replied reply) ds idle it w.1.same w.2 idle.full.1 idle.placed idle.from in
    settled_on n whole q a pre h it.after it.keeps.elsewhere
    (settle laws n whole q a pre there listed stands begins ps ds it.after w.0 idle_on (common_kept n q pre h it.after there it.keeps it.lawful common))
settle laws n whole q a pre there listed stands begins (p ∷ ps) (Judged j ∷ ds) h s idle common =
    let w = idle.worked in
    let front = prefix_trans w.0.front a.last.front whole (worked_front w.0 a.last ps ds w.2) begins in
    judged_next laws n whole q a pre h s w.0 p j ps ds there listed stands front w.1 idle.full.0 idle.placed.0 w.2 idle.full.1 idle.placed.1 idle.from
    (λ later. still_port n whole q a pre h s (p ∷ ps) (Judged j ∷ ds) idle (omega (arith, later)) tt) idle common
    (λ after idle_on common_on. settle laws n whole q a pre there listed stands begins ps ds after w.0 idle_on common_on)

-- ---- what all ports do

-- the ports below that number did all that they do at this place, and the others did nothing
record HaveSettledBelow (n : Node) (accounts : ℕ → Account) (whole pre : List HistoryEntry) (waits : ℕ → Option ℕ) (m : ℕ) : Type 0 where
  after : History
  common : IsCommon n pre after
  below : (q : ℕ) → q < m → q < n.ports → IsPort n whole q (accounts q) true pre after (waits q)
  above : (q : ℕ) → m ≤ q → q < n.ports → IsPort n whole q (accounts q) false pre after (waits q)

-- one port did all that it does at this place, and waits for what it waited for
record HasSettledAs (n : Node) (whole : List HistoryEntry) (q : ℕ) (a : Account) (pre : List HistoryEntry) (h : History) (wait : Option ℕ) : Type 0 where
  after : History
  common : IsCommon n pre after
  port : IsPort n whole q a true pre after wait
  elsewhere : StaysElsewhere n q h after

wait_same : (n : Node) (whole : List HistoryEntry) (q : ℕ) (a : Account) (pre : List HistoryEntry) (h : History) (x : IsToEnter n whole q a pre h ⊎ (IsToPublish n whole q a pre h ⊎ IsToShow n whole q a pre h))
    → waits_for n whole q a true pre h (inr x) ≡ waits_for n whole q a false pre h (inr x)
wait_same n whole q a pre h (inl x) = refl
wait_same n whole q a pre h (inr (inl x)) = refl
wait_same n whole q a pre h (inr (inr x)) = refl

one_settled : Laws → (n : Node) (whole : List HistoryEntry) (q : ℕ) (a : Account) (pre : List HistoryEntry) (h : History) (wait : Option ℕ) → q < n.ports → AreListed whole → IsPrefix pre whole → IsPrefix a.last.front whole → IsCommon n pre h
    → IsPort n whole q a false pre h wait → HasSettledAs n whole q a pre h wait
one_settled laws n whole q a pre h wait there listed stands begins common port = by port.at port.wait_is
  where
    by : (at : IsPortAt n whole q a false pre h) → waits_for n whole q a false pre h at ≡ wait → HasSettledAs n whole q a pre h wait
    by (inl x) is =
        let it = settle laws n whole q a pre there listed stands begins x.ps x.ds h x.s x.idle common in
        record { after = it.after; common = it.common; port = record { at = it.port.at; wait_is = it.port.wait_is ∙ is }; elsewhere = it.elsewhere }
    by (inr x) is = record { after = h; common = common; port = record { at = inr x; wait_is = wait_same n whole q a pre h x ∙ is }; elsewhere = elsewhere_same n q h }

settle_below : Laws → (n : Node) (accounts : ℕ → Account) (whole pre : List HistoryEntry) (h : History) (waits : ℕ → Option ℕ) → AreListed whole → IsPrefix pre whole → ((q : ℕ) → q < n.ports → IsPrefix (accounts q).last.front whole) → IsCommon n pre h
    → ((q : ℕ) → q < n.ports → IsPort n whole q (accounts q) false pre h (waits q)) → (m : ℕ) → m ≤ n.ports → HaveSettledBelow n accounts whole pre waits m
settle_below laws n accounts whole pre h waits listed stands begins common ports zero few = record {
  after = h;
  common = common;
  below = λ q low there. absurd (omega (arith, low));
  above = λ q high there. ports q there;
}
settle_below laws n accounts whole pre h waits listed stands begins common ports (suc m) few =
    let was = settle_below laws n accounts whole pre h waits listed stands begins common ports m (omega (arith, few)) in
    let there : m < n.ports = omega (arith, few) in
    let it = one_settled laws n whole m (accounts m) pre was.after (waits m) there listed stands (begins m there) was.common (was.above m (omega arith) there) in
    record {
      after = it.after;
      common = it.common;
      below = λ q low there_q. elim (cases_lt q m) [
        | inl lower ↦ port_moved n whole m q (accounts q) true pre was.after it.after (waits q) it.elsewhere (λ same. absurd (omega (arith, lower, same))) (was.below q lower there_q)
        | inr high ↦
            let same : m ≡ q = omega (arith, low, high) in
            subst (λ (i : ℕ). IsPort n whole i (accounts i) true pre it.after (waits i)) same it.port
      ];
      above = λ q high there_q. port_moved n whole m q (accounts q) false pre was.after it.after (waits q) it.elsewhere (λ same. absurd (omega (arith, high, same))) (was.above q (omega (arith, high)) there_q);
    }

-- all ports did all that they do at this place
pub all_settled : Laws → (n : Node) (accounts : ℕ → Account) (whole : List HistoryEntry) (firsts : List Publish) (pre : List HistoryEntry) (h : History) (waits : ℕ → Option ℕ) → AreListed whole → IsPrefix pre whole
    → ((q : ℕ) → q < n.ports → IsPrefix (accounts q).last.front whole) → IsWorld n accounts whole firsts false pre h waits → (after : History) × IsWorld n accounts whole firsts true pre after waits
all_settled laws n accounts whole firsts pre h waits listed stands begins world =
    let it = settle_below laws n accounts whole pre h waits listed stands begins world.common world.ports n.ports (omega arith) in (
      it.after,
      record {
        common = it.common;
        ports = λ q there. it.below q there there;
        pending = world.pending;
        opening = world.opening;
      },
    )
