-- What ports do by one link of the list: a bank has its entry, a program is published, or readers see it.
use Rattle.std.proofs.Common.{◌≡◌, ◌==◌, ◌+◌, ◌<◌, ◌≤◌, ℕ, true, false, List, [], ◌∷◌, ◌++◌, length, Option, Some, None, refl, sym, ap, subst, ◌∙◌, inl, inr, arith, append_assoc, eqb-true}
use Rattle.std.specs.Prelude.{slice_get}
use Rattle.std.proofs.lemmas.Bool.{cases_Bool, cases_lt}
use mathlib.Core.List.{IsPrefix}
use Rattle.spw.specs.Cargo.{Cargo}
use Rattle.rmap.specs.declared.places.Place.{Place}
use Rattle.rmap.specs.Command.{command_of}
use Rattle.rmap.specs.Reply.{reply_of}
use Rattle.rmap.specs.Windows.{WindowsValue}
use Rattle.bank.specs.Answer.{judged_line}
use Rattle.bank.specs.Records.{entry_of}
use Rattle.node_programs.specs.declared.publishes.Publish.{Publish}
use Rattle.node_parts.specs.declared.config.BankConfig.{BankConfig}
use Rattle.node_parts.specs.Loaded.{HasLoaded}
use Rattle.node_parts.specs.Passes.{PassValue}
use Rattle.annals.specs.declared.deed.Act.{Act}
use Rattle.annals.specs.declared.deed.Act.TheVariants.{Leaves, Publishes}
use Rattle.annals.specs.declared.deed.Deed.{Deed as LinkDeed}
use Rattle.annals.specs.declared.deed.Deed.TheVariants.{Does, Shows}
use Rattle.annals.specs.declared.deed.HistoryEntry.{HistoryEntry}
use Rattle.annals.specs.Banks.{entries_of, with_entry}
use Rattle.annals.specs.Chains.{chain_of, done_for, link, owner_of}
use Rattle.annals.specs.Publishes.{publishes_of}
use Rattle.annals.specs.Shown.{AreListed, shown_in, shown_of, shows}
use Rattle.ports.specs.Due.{stand}
use Rattle.sched.specs.declared.event.Event.{Event}
use Rattle.sched.specs.declared.event.Event.TheVariants.{Effect, Publish as Publishing}
use Rattle.sched.specs.declared.event.Outcome.TheVariants.{Done}
use Rattle.sched.specs.History.{History, Then, Open}
use Rattle.sched.specs.Looking.{Node, entries, published, staged_after, staging}
use Rattle.lawful.specs.Happenings.{Happening, HappenBy, ending, happening}
use Rattle.lawful.specs.Together.{Account, IsBankOfPorts}
use Rattle.lawful.proofs.Accounts.{HasActed, IsFrom, LeavesEntry, PublishesOne, acts_few, from_front, from_less, from_seen, load_acted, one_loaded}
use Rattle.lawful.proofs.Alone.{Laws, there_at}
use Rattle.lawful.proofs.Entering.{bank_staging}
use Rattle.lawful.proofs.Growing.{taken_longer}
use Rattle.lawful.proofs.Idling.{IsKnown}
use Rattle.lawful.proofs.Keeping.{StaysElsewhere, happened_here, one_elsewhere, opened_here, staging_here}
use Rattle.lawful.proofs.Links.{IsNoneOf, at_place, done_few, done_one, done_same, entries_elsewhere, entries_same, front_of, longer_has, none_not, none_shows, not_same, published_one, published_prefix, seen_is, seen_same, shown_few, shown_one, shown_same, size_more}
use Rattle.lawful.proofs.Loading.{IsNow, loaded_thus, quiet_known}
use Rattle.lawful.proofs.Settling.{of_after}
use Rattle.lawful.proofs.Sharing.{entry_thus}
use Rattle.lawful.proofs.Reporting.{outcome_here}
use Rattle.lawful.proofs.Worlds.{IsCommon, IsIdleAt, IsOpen, IsPort, IsPortAt, IsToEnter, IsToPublish, IsToShow, command_in, enter_acted, entry_at, front_open, nowhere_moved, waits_for}
use Rattle.lemmas.proofs.Prefixes.{prefix_length, prefix_shorter, prefix_trans}

-- what a port did by a link, as a history goes on
pub record HasStepped (n : Node) (whole : List HistoryEntry) (q : ℕ) (a : Account) (pre : List HistoryEntry) (l : HistoryEntry) (h : History) (wait : Option ℕ) : Type 0 where
  pub after : History
  pub common : IsCommon n (pre ++ l ∷ []) after
  pub port : IsPort n whole q a false (pre ++ l ∷ []) after wait
  pub elsewhere : StaysElsewhere n q h after

-- ---- what a port has not done

module _ (laws : Laws) (n : Node) (whole : List HistoryEntry) (q : ℕ) (a : Account) (pre : List HistoryEntry) (l : HistoryEntry) (listed : AreListed whole) (stands : IsPrefix (pre ++ l ∷ []) whole) (begins : IsPrefix a.last.front whole)
    (did : length (done_for q whole) ≤ length a.last.asked) where
  before_it : IsPrefix pre whole
  before_it = front_of pre whole l stands

  few_here : shown_in pre ≤ length (publishes_of pre)
  few_here = listed pre before_it

  size_here : length (pre ++ l ∷ []) ≡ length pre + 1
  size_here = size_more pre l

  -- the command whose program readers do not see yet: after it none is taken here
  pub from_unseen : (x : IsOpen n whole q a) (one : PublishesOne q whole x.j x.p x.s x.after x.is) → shown_in pre ≤ length one.windowed.old → IsFrom (length pre + 1) x.after a.last x.ps x.ds x.worked
  from_unseen x one unseen = from_seen (length pre + 1) whole x.after a.last x.ps x.ds x.worked listed begins (λ at at_stands many.
      let load = one_loaded q whole x.j x.p x.s x.after x.is one in
      let size = ap length load.programs ∙ size_more one.windowed.old one.publish in
      elim (cases_lt (length pre) (length at)) [
        | inl more ↦ omega (arith, more)
        | inr few ↦
            let less = shown_few at pre (prefix_shorter at pre whole at_stands before_it few) in
            absurd (omega (arith, size, less, many, unseen))
      ])

  -- the act is none of an idle port
  pub idle_not : (h : History) (act : Act) → l.deed ≡ Does act → owner_of act ≡ q → IsIdleAt n whole q a true pre h → ⊥
  idle_not h act is own x =
      let y = pre ++ l ∷ [] in
      let few = acts_few laws n q whole y x.s a.last x.ps x.ds x.idle.worked listed begins did x.idle.mine.port_is x.idle.full x.idle.placed stands (from_less (length pre + 1) (length y) x.s a.last x.ps x.ds x.idle.worked (omega (arith, size_here)) x.idle.from) in
      let one = done_one q pre l act is own in
      let acts = x.idle.acts in
      absurd (omega (arith, few, one, acts))

  -- and none of a port whose next act comes later
  pub later_not : (x : IsOpen n whole q a) (act : Act) → l.deed ≡ Does act → owner_of act ≡ q → length (done_for q pre) ≡ length x.s.asked → (it : HasActed q whole x.j x.p x.s x.after x.is) → IsFrom (length it.before + 1) x.after a.last x.ps x.ds x.worked
      → length pre < length it.before → ⊥
  later_not x act is own acts it from less =
      let y = it.before ++ it.item ∷ [] in
      let size : length y ≡ length it.before + 1 = size_more it.before it.item in
      let few = acts_few laws n q whole y x.after a.last x.ps x.ds x.worked listed begins did (of_after laws n q x.j x.p x.s x.after x.is x.mine).port_is x.full x.placed it.stands
      (from_less (length it.before + 1) (length y) x.after a.last x.ps x.ds x.worked (omega (arith, size)) from) in
      let one = done_one q it.before it.item it.act it.deed it.own in
      let here = done_one q pre l act is own in
      let before = done_few q (pre ++ l ∷ []) it.before (longer_has pre it.before whole l stands (front_of it.before whole it.item it.stands) less) in
      let asked = it.asked in
      absurd (omega (arith, few, one, here, before, asked, acts))

  -- nor of one that waits until readers see its program
  pub shown_not : (h : History) (act : Act) → l.deed ≡ Does act → owner_of act ≡ q → IsToShow n whole q a pre h → ⊥
  shown_not h act is own x =
      let o = x.open_at in
      let y = pre ++ l ∷ [] in
      let few = acts_few laws n q whole y o.after a.last o.ps o.ds o.worked listed begins did (of_after laws n q o.j o.p o.s o.after o.is o.mine).port_is o.full o.placed stands
      (from_less (length pre + 1) (length y) o.after a.last o.ps o.ds o.worked (omega (arith, size_here)) (from_unseen o x.one x.unseen)) in
      let one = done_one q pre l act is own in
      let asked = (load_acted q whole o.j o.p o.s o.after o.is x.one).asked in
      let acts = x.acts in
      absurd (omega (arith, few, one, asked, acts))

  pub from_entry : (x : IsOpen n whole q a) (entry : LeavesEntry x.j x.p x.s x.after x.is) → IsFrom (length (entry_at n whole q a x entry).before + 1) x.after a.last x.ps x.ds x.worked
  from_entry x entry =
      let done = entry_at n whole q a x entry in
      let k = entry.banked.number in
      let size = ap length done.log ∙ size_more done.before (link k (length (chain_of k done.before)) (Does (Leaves (entry_of done.share x.j.judged done.status))) done.next) in
      from_front (length done.before + 1) x.after a.last x.ps x.ds x.worked (omega (arith, size))

  -- ---- a link that is not the port's

  -- what it did not do yet it does later
  not_here : (x : IsOpen n whole q a) (it : HasActed q whole x.j x.p x.s x.after x.is) → IsNoneOf q l.deed → length pre ≤ length it.before → length (pre ++ l ∷ []) ≤ length it.before
  not_here x it none low = elim (cases_lt (length pre) (length it.before)) [
    | inl less ↦ omega (arith, less, size_here)
    | inr high ↦
        let that = at_place it.before pre whole it.item l it.stands stands (omega (arith, low, high)) in
        absurd (none_not q l.deed it.act (ap (λ (x : HistoryEntry). x.deed) (sym that.item) ∙ it.deed) it.own none)
  ]

  pub port_further : (h : History) (wait : Option ℕ) → IsNoneOf q l.deed → ((number : ℕ) → wait ≡ Some number → shown_in pre ≤ number → IsToShow n whole q a pre h → shown_in (pre ++ l ∷ []) ≤ number)
      → IsPort n whole q a true pre h wait → IsPort n whole q a false (pre ++ l ∷ []) h wait
  port_further h wait none unseen port = by port.at port.wait_is
    where
      acts : done_for q (pre ++ l ∷ []) ≡ done_for q pre
      acts = done_same q pre l none

      by : (at : IsPortAt n whole q a true pre h) → waits_for n whole q a true pre h at ≡ wait → IsPort n whole q a false (pre ++ l ∷ []) h wait
      by (inl x) is = record {
        at = inl (record {
          s = x.s;
          ps = x.ps;
          ds = x.ds;
          idle = record {
            worked = x.idle.worked;
            full = x.idle.full;
            placed = x.idle.placed;
            from = from_less (length pre + 1) (length (pre ++ l ∷ [])) x.s a.last x.ps x.ds x.idle.worked (omega (arith, size_here)) x.idle.from;
            still_is = tt;
            mine = x.idle.mine;
            happened = x.idle.happened;
            here = x.idle.here;
            acts = ap length acts ∙ x.idle.acts;
            so_far = x.idle.so_far;
          };
        });
        wait_is = is;
      }
      by (inr (inl x)) is = record {
        at = inr (inl (record {
          open_at = x.open_at;
          here = x.here;
          acts = ap length acts ∙ x.acts;
          entry = x.entry;
          place = not_here x.open_at (enter_acted n whole q a x.open_at x.entry (front_open n whole q a x.open_at begins)) none x.place;
        }));
        wait_is = is;
      }
      by (inr (inr (inl x))) is = record {
        at = inr (inr (inl (record {
          open_at = x.open_at;
          here = x.here;
          acts = ap length acts ∙ x.acts;
          one = x.one;
          place = not_here x.open_at (load_acted q whole x.open_at.j x.open_at.p x.open_at.s x.open_at.after x.open_at.is x.one) none x.place;
        })));
        wait_is = is;
      }
      by (inr (inr (inr x))) is = record {
        at = inr (inr (inr (record {
          open_at = x.open_at;
          here = x.here;
          acts = ap length acts ∙ x.acts;
          one = x.one;
          place = (let less = x.place in omega (arith, less, size_here));
          unseen = unseen (length x.one.windowed.old) (sym is) x.unseen x;
        })));
        wait_is = is;
      }

  -- ---- a link of the port

  -- a bank has its entry
  pub entry_step : (h : History) (x : IsToEnter n whole q a pre h) → q < n.ports → ((k : ℕ) (bank : BankConfig) → slice_get n.banks k ≡ Some bank → IsBankOfPorts k bank whole) → IsCommon n pre h → length (entry_at n whole q a x.open_at x.entry).before ≡ length pre → HasStepped n whole q a pre l h None
  entry_step h x there banks common same =
      let o = x.open_at in
      let j = o.j in
      let s = o.s in
      let after = o.after in
      let is = o.is in
      let entry = x.entry in
      let k = entry.banked.number in
      let done = entry_at n whole q a o entry in
      let it = enter_acted n whole q a o entry (front_open n whole q a o begins) in
      let c = command_in n whole q a o in
      let middle = stand is.between s.asked is.reached in
      let that = at_place it.before pre whole it.item l it.stands stands same in
      let all : after.front ≡ pre ++ l ∷ [] = done.log ∙ (ap (λ (ls : List HistoryEntry). ls ++ it.item ∷ []) that.front ∙ ap (λ (i : HistoryEntry). pre ++ i ∷ []) that.item) in
      let placed = is.judgement.judged_for.placed.inside k entry.banked.place in
      let bank = there_at n.banks k (subst (λ (w : WindowsValue). k < length w.banks) o.mine.windows placed.below) in
      let port_is : j.judged.port ≡ q = is.judgement.judged_for.port_of ∙ o.mine.port_is in
      let staging_same : is.between.staging ≡ s.pass.staging = ap (λ (y : PassValue). y.staging) is.judgement.asked in
      let end = entry_thus n q k bank.bank whole h c j middle after bank.is (banks k bank.bank bank.is) x.here.command o.stands o.lies is.judgement.judged_for.packet refl port_is entry.banked.place done (front_open n whole q a o begins)
      (common.banks k bank.bank bank.is ∙ ap (entries_of k) (sym that.front)) in
      let outcome = Done end.status j.reply None in
      let e = Effect q in
      let next = Then h e outcome in
      let stays = one_elsewhere n h e outcome q refl in
      let deed : l.deed ≡ Does (Leaves (entry_of done.share j.judged done.status)) = ap (λ (i : HistoryEntry). i.deed) (sym that.item) in
      let chain : l.chain ≡ k = ap (λ (i : HistoryEntry). i.chain) (sym that.item) in
      let quiet : shows l.deed ≡ 0 = ap shows deed in
      let seen : shown_of (pre ++ l ∷ []) ≡ shown_of pre = seen_same pre l few_here quiet in
      let count : shown_in (pre ++ l ∷ []) ≡ shown_in pre = shown_same pre l quiet in
      let one = done_one q pre l (Leaves (entry_of done.share j.judged done.status)) deed port_is in
      let asked = it.asked in
      let acts = x.acts in
      let size = ap length all ∙ size_here in
      let ending_is : ending j.judged.place q ≡ e = ap (λ (pl : Place). ending pl q) entry.banked.place in
      let bank_by : (m : ℕ) (config : BankConfig) → slice_get n.banks m ≡ Some config → entries n next m ≡ entries_of m (pre ++ l ∷ []) =
      λ m config is_m. elim (cases_Bool (m == k)) [
        | inl here ↦
            let same_bank : k ≡ m = sym (eqb-true m k here) in
            subst (λ (i : ℕ). entries n next i ≡ entries_of i (pre ++ l ∷ [])) same_bank (end.own ∙ ap (entries_of k) all)
        | inr elsewhere ↦
            let other : m ≡ k → ⊥ = λ eq. absurd (not_same m k elsewhere eq) in
            end.others m other ∙ (common.banks m config is_m ∙ sym (entries_elsewhere m pre l (λ eq. other (sym eq ∙ chain))))
      ] in
      record {
        after = next;
        common = record {
          lawful = (common.lawful, outcome_here n h e outcome q refl there end.outcome);
          known = λ some. quiet_known n h e outcome (shown_of pre) (shown_of (pre ++ l ∷ [])) refl seen (common.known (omega (arith, some, count)));
          fresh = λ nothing. let was = common.fresh (omega (arith, nothing, count)) in record { programs = λ slot. was.programs slot; count = was.count };
          banks = bank_by;
          nowhere = nowhere_moved n q h next there stays common.nowhere;
        };
        port = record {
          at = inl (record {
            s = after;
            ps = o.ps;
            ds = o.ds;
            idle = record {
              worked = o.worked;
              full = o.full;
              placed = o.placed;
              from = from_front (length (pre ++ l ∷ [])) after a.last o.ps o.ds o.worked (omega (arith, size, size_here));
              still_is = tt;
              mine = of_after laws n q j o.p s after is o.mine;
              happened = o.happened ++ happening e outcome ∷ [];
              here = record {
                command = opened_here h e outcome q refl;
                staging_is = staging_here n h e outcome q refl
                    ∙ (ap (λ (y : Option Open). staged_after n y end.status None (staging n h q)) x.here.command
                    ∙ (ap (staged_after n (Some c) end.status None) (x.here.staging_is ∙ sym staging_same) ∙ bank_staging n c j k end.status middle after o.lies entry.banked.place entry.banked));
                happened = happened_here h e outcome q refl ∙ ap (λ (hs : List Happening). hs ++ happening e outcome ∷ []) x.here.happened;
              };
              acts = omega (arith, one, asked, acts);
              so_far = λ rest by.
                  subst (λ (hs : List Happening). HappenBy q a.packets a.deeds hs) (sym (append_assoc o.happened (happening e outcome ∷ []) rest))
                  (subst (λ (y : Event). HappenBy q a.packets a.deeds (o.happened ++ (happening y outcome ∷ rest))) ending_is (o.so_far end.status None rest by));
            };
          });
          wait_is = refl;
        };
        elsewhere = stays;
      }

  -- a program is published
  pub publish_step : (h : History) (x : IsToPublish n whole q a pre h) → length x.one.placed.before ≡ length pre → (y : IsToShow n whole q a (pre ++ l ∷ []) h) × (length y.one.windowed.old ≡ length x.one.windowed.old)
  publish_step h x same =
      let o = x.open_at in
      let it = load_acted q whole o.j o.p o.s o.after o.is x.one in
      let that = at_place it.before pre whole it.item l it.stands stands same in
      let deed : l.deed ≡ Does (Publishes (q, x.one.publish)) = ap (λ (i : HistoryEntry). i.deed) (sym that.item) ∙ x.one.placed.deed in
      let one = done_one q pre l (Publishes (q, x.one.publish)) deed refl in
      let acts = x.acts in
      let met : length (publishes_of pre) ≡ length x.one.windowed.old = ap (λ (ls : List HistoryEntry). length (publishes_of ls)) (sym that.front) ∙ ap length x.one.placed.met in
      let quiet = shown_same pre l (ap shows deed) in
      let few = few_here in (
        record {
          open_at = o;
          here = x.here;
          acts = omega (arith, one, acts);
          one = x.one;
          place = omega (arith, same, size_here);
          unseen = omega (arith, met, quiet, few);
        },
        refl,
      )

  -- readers see a program
  pub show_step : (h : History) (x : IsToShow n whole q a pre h) → q < n.ports → l.deed ≡ Shows → IsCommon n pre h → length x.one.windowed.old ≡ shown_in pre → HasStepped n whole q a pre l h None
  show_step h x there is_shows common here_now =
      let o = x.open_at in
      let j = o.j in
      let s = o.s in
      let after = o.after in
      let is = o.is in
      let one = x.one in
      let it = one.windowed in
      let old = it.old in
      let c = command_in n whole q a o in
      let act = load_acted q whole o.j o.p o.s o.after o.is one in
      let load = one_loaded q whole j o.p s after is one in
      let in_pre : IsPrefix (act.before ++ act.item ∷ []) pre = longer_has act.before pre whole act.item act.stands before_it x.place in
      let published : publishes_of (act.before ++ act.item ∷ []) ≡ old ++ one.publish ∷ [] = published_one act.before act.item q one.publish one.placed.chain one.placed.deed ∙ ap (λ (ps : List Publish). ps ++ one.publish ∷ []) one.placed.met in
      let old_pre : IsPrefix old (publishes_of pre) =
      subst (λ (ps : List Publish). IsPrefix ps (publishes_of pre)) one.placed.met (published_prefix act.before pre (front_of act.before pre act.item in_pre)) in
      let new_pre : IsPrefix (old ++ one.publish ∷ []) (publishes_of (pre ++ l ∷ [])) =
      subst (λ (ps : List Publish). IsPrefix ps (publishes_of (pre ++ l ∷ []))) published
      (published_prefix (act.before ++ act.item ∷ []) (pre ++ l ∷ []) (prefix_trans (act.before ++ act.item ∷ []) pre (pre ++ l ∷ []) in_pre (l ∷ [], refl))) in
      let seen : shown_of pre ≡ old = seen_is pre old old_pre here_now in
      let more = shown_one pre l is_shows in
      let size = size_more old one.publish in
      let seen_now : shown_of (pre ++ l ∷ []) ≡ old ++ one.publish ∷ [] = seen_is (pre ++ l ∷ []) (old ++ one.publish ∷ []) new_pre (omega (arith, size, here_now, more)) in
      let longer = prefix_length is.between.programs old it.begins in
      let knows = prefix_length s.pass.programs is.between.programs (taken_longer j o.p s after is) in
      let of_some = o.mine.some in
      let some : length n.firsts < shown_in pre = omega (arith, longer, knows, of_some, here_now) in
      let known : IsKnown n h old = subst (λ (ps : List Publish). IsKnown n h ps) seen (common.known some) in
      let staging_same : is.between.staging ≡ s.pass.staging = ap (λ (y : PassValue). y.staging) is.judgement.asked in
      let packet = is.judgement.judged_for.packet in
      let between : PassValue = record is.between { programs = old } in
      let at_end : IsNow n q h c j between = record {
        is_open = x.here.command;
        stands = o.stands;
        lies = o.lies;
        packet = packet;
        staging_is = x.here.staging_is ∙ sym staging_same;
        known = known;
      } in
      let was = load.loaded in
      let loaded : HasLoaded between after.pass old it.new j.judged it.result = record {
        generation = was.generation;
        published = record {
          slot = was.published.slot;
          program = was.published.program;
          load = was.published.load;
          extends = was.published.extends;
          place = was.published.place;
          reported = was.published.reported;
          keeps = subst (λ (ps : List Publish). IsPrefix old ps) (sym load.programs) (one.publish ∷ [], refl);
          learnt = was.published.learnt;
        };
        status = was.status;
        holder_after = was.holder_after;
      } in
      let line : judged_line (command_of o.p) j.judged.verdict ≡ None = ap (λ (y : Cargo). judged_line (command_of y) j.judged.verdict) (sym packet) ∙ load.line in
      let reply_is : j.reply ≡ reply_of (command_of o.p) it.result [] = load.reply_is ∙ ap (λ (y : Cargo). reply_of (command_of y) it.result []) packet in
      let end = loaded_thus n q h c j between at_end laws.images laws.next load.place line after.pass old it.new it.result j.reply refl loaded reply_is in
      let outcome = Done end.status j.reply end.loaded in
      let e = Publishing q in
      let next = Then h e outcome in
      let stays = one_elsewhere n h e outcome q refl in
      let none : IsNoneOf q l.deed = none_shows q l.deed is_shows in
      let no_entry : with_entry l.deed [] ≡ [] = ap (λ (d : LinkDeed). with_entry d []) is_shows in
      let ending_is : ending j.judged.place q ≡ e = ap (λ (pl : Place). ending pl q) load.place in
      let asked = act.asked in
      let acts = x.acts in
      let same_acts = ap length (done_same q pre l none) in
      record {
        after = next;
        common = record {
          lawful = (common.lawful, outcome_here n h e outcome q refl there end.outcome);
          known = λ _. subst (λ (ps : List Publish). IsKnown n next ps) (load.programs ∙ sym seen_now) end.known;
          fresh = λ nothing. absurd (omega (arith, nothing, more, some));
          banks = λ m config is_m. end.banks m ∙ (common.banks m config is_m ∙ sym (entries_same m pre l no_entry));
          nowhere = nowhere_moved n q h next there stays common.nowhere;
        };
        port = record {
          at = inl (record {
            s = after;
            ps = o.ps;
            ds = o.ds;
            idle = record {
              worked = o.worked;
              full = o.full;
              placed = o.placed;
              from = from_less (length pre + 1) (length (pre ++ l ∷ [])) after a.last o.ps o.ds o.worked (omega (arith, size_here)) (from_unseen o one (omega (arith, here_now)));
              still_is = tt;
              mine = of_after laws n q j o.p s after is o.mine;
              happened = o.happened ++ happening e outcome ∷ [];
              here = record {
                command = opened_here h e outcome q refl;
                staging_is = staging_here n h e outcome q refl
                    ∙ (ap (λ (y : Option Open). staged_after n y end.status end.loaded (staging n h q)) x.here.command
                    ∙ (ap (staged_after n (Some c) end.status end.loaded) (x.here.staging_is ∙ sym staging_same) ∙ end.staging_is));
                happened = happened_here h e outcome q refl ∙ ap (λ (hs : List Happening). hs ++ happening e outcome ∷ []) x.here.happened;
              };
              acts = omega (arith, same_acts, asked, acts);
              so_far = λ rest by.
                  subst (λ (hs : List Happening). HappenBy q a.packets a.deeds hs) (sym (append_assoc o.happened (happening e outcome ∷ []) rest))
                  (subst (λ (y : Event). HappenBy q a.packets a.deeds (o.happened ++ (happening y outcome ∷ rest))) ending_is (o.so_far end.status end.loaded rest by));
            };
          });
          wait_is = refl;
        };
        elsewhere = stays;
      }
