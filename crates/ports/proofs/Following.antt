-- The laws of what a worker did, by induction on its packets.
use Rattle.std.proofs.Common.{◌≡◌, ◌≢◌, ◌⊎◌, ℕ, ◌+◌, ◌<◌, Bool, true, false, cond, eqb, ◌&&◌, List, [], ◌∷◌, ◌++◌, Option, Some, None, length, sym, refl, ap, ◌∙◌, subst, append_assoc, arith, inl, inr}
use Rattle.std.specs.Prelude.{filter, if◌then◌else◌}
use Rattle.std.specs.List.{All}
use Rattle.std.proofs.lemmas.List.{append-nil, get_or-set_other}
use Rattle.std.proofs.lemmas.Grind.{get_or-set_at}
use Rattle.std.proofs.lemmas.List.Elements.{All-nil, All-cons}
use Rattle.std.proofs.lemmas.Bool.{cases_Bool, cases_eq}
use Rattle.std.proofs.lemmas.Bool.Decides.{nat_tests}
use mathlib.Core.List.{IsPrefix}
use Rattle.spw.specs.Cargo.{Cargo}
use Rattle.rmap.specs.declared.places.Place.{Place}
use Rattle.rmap.specs.declared.places.Place.TheVariants.{Bank, Staging, LoadResult, Control}
use Rattle.rmap.specs.declared.status.Status.{Status}
use Rattle.rmap.specs.Command.{command_of, command_kind}
use Rattle.bank.specs.Records.{BankValue, ShareValue, JudgedValue, has_room, next_share, first_share}
use Rattle.annals.specs.Banks.{takes}
use Rattle.node_programs.specs.declared.publishes.Publish.{Publish}
use Rattle.node_programs.specs.Published.{judging_program}
use Rattle.node_parts.specs.Passes.{PassValue, SeatValue}
use Rattle.node_parts.specs.Slots.{slot_of}
use Rattle.node_parts.specs.Steps.{IsJudgement, IsPacketVerdict}
use Rattle.node_parts.specs.Applied.{share_of, with_share}
use Rattle.node_parts.specs.Loaded.{EndsAs}
use Rattle.node_parts.specs.Served.{EndsAtWindow}
use Rattle.ports.specs.Due.{Judging, Deed, Standing, stand, Worked, IsBanked, IsWindowEnd, IsJudgedInRun, IsDealt, judgings}
use Rattle.ports.specs.Due.Deed.{Dropped, Answered, Judged}
use Rattle.annals.specs.Shown.{shown_of}
use Rattle.ports.specs.Laws.{IsByPublished, IsByShown, calls_of_runs, is_bank_of, is_entry_at, entry_count_at, next_number_at, SharesCount}
use Rattle.ports.proofs.Keeping.{end_keeps}
use Rattle.lemmas.proofs.Prefixes.{prefix_same, prefix_trans}

-- ---- what stays of a port, and that it saw more

pub record Stays (h after : PassValue) : Type 0 where
  pub programs : IsPrefix h.programs after.programs
  pub port : after.port ≡ h.port
  pub windows : after.windows ≡ h.windows
  pub sizes : after.seat.sizes ≡ h.seat.sizes
  pub home : after.seat.home ≡ h.seat.home
  pub count : length after.shares ≡ length h.shares

stays_same : (h after : PassValue) → after ≡ h → Stays h after
stays_same h after same = record {
  programs = prefix_same h.programs after.programs (ap (λ (x : PassValue). x.programs) same);
  port = ap (λ (x : PassValue). x.port) same;
  windows = ap (λ (x : PassValue). x.windows) same;
  sizes = ap (λ (x : PassValue). x.seat.sizes) same;
  home = ap (λ (x : PassValue). x.seat.home) same;
  count = ap (λ (x : PassValue). length x.shares) same;
}

stays_on : (h between after : PassValue) → Stays h between → Stays between after → Stays h after
stays_on h between after a b = record {
  programs = prefix_trans h.programs between.programs after.programs a.programs b.programs;
  port = b.port ∙ a.port;
  windows = b.windows ∙ a.windows;
  sizes = b.sizes ∙ a.sizes;
  home = b.home ∙ a.home;
  count = b.count ∙ a.count;
}

-- a run leaves a port what it was, except for its calls and the programs that it has seen more
run_stays : (h between : PassValue) (p : Cargo) (j : JudgedValue) → IsJudgement h between p j → Stays h between
run_stays h between p j is = record {
  programs = subst (λ l. IsPrefix h.programs l) (sym (ap (λ (x : PassValue). x.programs) is.asked)) is.taken.longer;
  port = ap (λ (x : PassValue). x.port) is.asked;
  windows = ap (λ (x : PassValue). x.windows) is.asked;
  sizes = ap (λ (x : PassValue). x.seat.sizes) is.asked;
  home = ap (λ (x : PassValue). x.seat.home) is.asked;
  count = ap (λ (x : PassValue). length x.shares) is.asked;
}

end_stays : (j : Judging) (between after : Standing) → IsBanked j between after ⊎ IsWindowEnd j between after → Stays between.pass after.pass
end_stays j between after end = let keeps = end_keeps j between after end in record {
  programs = keeps.programs;
  port = keeps.port;
  windows = keeps.windows;
  sizes = ap (λ (s : SeatValue). s.sizes) keeps.seat;
  home = ap (λ (s : SeatValue). s.home) keeps.seat;
  count = keeps.count;
}

pub same_stays : (h after : Standing) → after ≡ h → Stays h.pass after.pass
same_stays h after same = stays_same h.pass after.pass (ap (λ (x : Standing). x.pass) same)

pub dealt_stays : (d : Deed) (p : Cargo) (h after : Standing) → IsDealt d p h after → Stays h.pass after.pass
dealt_stays Dropped p h after is = same_stays h after is.same
dealt_stays (Answered reply) p h after is = same_stays h after is.same
dealt_stays (Judged j) p h after is =
    stays_on h.pass is.between after.pass (run_stays h.pass is.between p j.judged is.judgement) (end_stays j (stand is.between h.asked is.reached) after is.ended)

pub worked_stays : (h after : Standing) (ps : List Cargo) (ds : List Deed) → Worked h ps ds after → Stays h.pass after.pass
worked_stays h after [] [] w = same_stays h after w
worked_stays h after [] (d ∷ ds) w = absurd w
worked_stays h after (p ∷ ps) [] w = absurd w
worked_stays h after (p ∷ ps) (d ∷ ds) w = stays_on h.pass w.0.pass after.pass (dealt_stays d p h w.0 w.1) (worked_stays w.0 after ps ds w.2)

-- ---- programs were published

-- what a beginning of some publishes has, a beginning of more publishes has
by_more : (some more : List Publish) (port port' : ℕ) (j : Judging) → IsPrefix some more → port ≡ port' → IsByPublished some port j → IsByPublished more port' j
by_more some more port port' j longer same is = record {
  seen = is.seen;
  begins = prefix_trans is.seen some more is.begins longer;
  shown = is.shown;
  verdict = subst (λ n. IsPacketVerdict j.program n j.calls j.judged.packet j.judged.verdict) same is.verdict;
}

-- a command that was judged is so by a program of any publishes that all begin which its port had seen then
pub judged_by : (j : Judging) (p : Cargo) (h after : Standing) (published : List Publish) (is : IsJudgedInRun j p h after) → IsPrefix is.between.programs published → IsByPublished published h.pass.port j
judged_by j p h after published is begins =
    let run = is.judgement in let for = run.judged_for in
    let saw : run.seen ≡ is.between.programs = sym (ap (λ (x : PassValue). x.programs) run.asked) in
    record {
      seen = run.seen;
      begins = subst (λ l. IsPrefix l published) (sym saw) begins;
      shown = subst (λ c. judging_program run.seen (slot_of (command_kind (command_of c)) j.judged.place) ≡ Some (j.program, j.judged.generation)) (sym for.packet)
          (subst (λ a. judging_program run.seen (slot_of (command_kind (command_of p)) j.judged.place) ≡ Some (a, j.judged.generation)) (sym is.program) run.taken.shown);
      verdict = subst (λ c. IsPacketVerdict j.program h.pass.port j.calls c j.judged.verdict) (sym for.packet)
          (subst (λ a. IsPacketVerdict a h.pass.port j.calls p j.judged.verdict) (sym is.program) (subst (λ l. IsPacketVerdict run.program h.pass.port l p j.judged.verdict) (sym is.calls) for.verdict));
    }

-- and by the one that readers saw in its slot at the moment of its take
pub judged_shown : (j : Judging) (p : Cargo) (h after : Standing) → (is : IsJudgedInRun j p h after) → IsByShown h.front is.reached j
judged_shown j p h after is =
    let run = is.judgement in
    let saw : shown_of is.moment.at ≡ run.seen = is.moment.seen ∙ ap (λ (x : PassValue). x.programs) run.asked in
    record {
      at = is.moment.at;
      after = is.moment.after;
      before = is.moment.before;
      shown = subst (λ l. judging_program l (slot_of (command_kind (command_of j.judged.packet)) j.judged.place) ≡ Some (j.program, j.judged.generation)) (sym saw)
          (subst (λ c. judging_program run.seen (slot_of (command_kind (command_of c)) j.judged.place) ≡ Some (j.program, j.judged.generation)) (sym run.judged_for.packet)
          (subst (λ a. judging_program run.seen (slot_of (command_kind (command_of p)) j.judged.place) ≡ Some (a, j.judged.generation)) (sym is.program) run.taken.shown));
    }

judged_published : (j : Judging) (p : Cargo) (h after : Standing) → IsJudgedInRun j p h after → IsByPublished after.pass.programs h.pass.port j
judged_published j p h after is = judged_by j p h after after.pass.programs is (end_stays j (stand is.between h.asked is.reached) after is.ended).programs

pub programs_were_published : (h after : Standing) (ps : List Cargo) (ds : List Deed) → Worked h ps ds after → All (IsByPublished after.pass.programs h.pass.port) (judgings ds)
programs_were_published h after [] [] w = All-nil (IsByPublished after.pass.programs h.pass.port)
programs_were_published h after [] (d ∷ ds) w = absurd w
programs_were_published h after (p ∷ ps) [] w = absurd w
programs_were_published h after (p ∷ ps) (Dropped ∷ ds) w =
    subst (λ n. All (IsByPublished after.pass.programs n) (judgings ds)) (same_stays h w.0 w.1.same).port (programs_were_published w.0 after ps ds w.2)
programs_were_published h after (p ∷ ps) (Answered reply ∷ ds) w =
    subst (λ n. All (IsByPublished after.pass.programs n) (judgings ds)) (same_stays h w.0 w.1.same).port (programs_were_published w.0 after ps ds w.2)
programs_were_published h after (p ∷ ps) (Judged j ∷ ds) w =
    let later = worked_stays w.0 after ps ds w.2 in
    let first = by_more w.0.pass.programs after.pass.programs h.pass.port h.pass.port j later.programs refl (judged_published j p h w.0 w.1) in
    let same = (dealt_stays (Judged j) p h w.0 w.1).port in
    All-cons (IsByPublished after.pass.programs h.pass.port) j (judgings ds) first
    (subst (λ n. All (IsByPublished after.pass.programs n) (judgings ds)) same (programs_were_published w.0 after ps ds w.2))

-- ---- each run asked once

judged_asks : (j : Judging) (p : Cargo) (h after : Standing) → IsJudgedInRun j p h after → after.pass.seat.asked ≡ h.pass.seat.asked ++ j.calls
judged_asks j p h after is =
    let end = end_keeps j (stand is.between h.asked is.reached) after is.ended in
    ap (λ (s : SeatValue). s.asked) end.seat ∙ ap (λ (x : PassValue). x.seat.asked) is.judgement.asked ∙ ap (λ l. h.pass.seat.asked ++ l) (sym is.calls)

pub ask_once : (h after : Standing) (ps : List Cargo) (ds : List Deed) → Worked h ps ds after → after.pass.seat.asked ≡ h.pass.seat.asked ++ calls_of_runs ds
ask_once h after [] [] w = ap (λ (x : Standing). x.pass.seat.asked) w ∙ sym (append-nil h.pass.seat.asked)
ask_once h after [] (d ∷ ds) w = absurd w
ask_once h after (p ∷ ps) [] w = absurd w
ask_once h after (p ∷ ps) (Dropped ∷ ds) w =
    ask_once w.0 after ps ds w.2 ∙ ap (λ (x : Standing). x.pass.seat.asked ++ calls_of_runs ds) w.1.same
ask_once h after (p ∷ ps) (Answered reply ∷ ds) w =
    ask_once w.0 after ps ds w.2 ∙ ap (λ (x : Standing). x.pass.seat.asked ++ calls_of_runs ds) w.1.same
ask_once h after (p ∷ ps) (Judged j ∷ ds) w =
    ask_once w.0 after ps ds w.2 ∙ ap (λ l. l ++ calls_of_runs ds) (judged_asks j p h w.0 w.1) ∙ append_assoc h.pass.seat.asked j.calls (calls_of_runs ds)

-- ---- shares count entries

-- what a judged command adds to the port's number at a bank
abbrev pub bit : Bool → ℕ
bit true = 1
bit false = 0

abbrev pub one_at : ℕ → Judging → ℕ
one_at k j = bit (is_entry_at k j)

next_number : (b : BankValue) (share : ShareValue) (j : JudgedValue) → (next_share b share j).number ≡ share.number + bit (has_room b j.port)
next_number b share j = elim (has_room b j.port) as (λ room. (if room then record { port = share.port; number = share.number + 1 } else share).number ≡ share.number + bit room) [
  | true ↦ refl
  | false ↦ omega arith
]

not_at : (entered : Bool) (k n : ℕ) → k ≢ n → bit (entered && eqb n k) ≡ 0
not_at entered k n apart = let other : eqb n k ≡ false = grind (arith, nat_tests) in
    rw other (elim entered as (λ e. bit (e && false) ≡ 0) [ true ↦ refl | false ↦ refl ])

is_at : (entered : Bool) (k n : ℕ) → k ≡ n → bit (entered && eqb n k) ≡ bit entered
is_at entered k n same = let here : eqb n k ≡ true = grind (arith, nat_tests) in
    rw here (elim entered as (λ e. bit (e && true) ≡ bit e) [ true ↦ refl | false ↦ refl ])

-- the port's numbers if it has another share of one bank
shared_number : (k n : ℕ) (h : PassValue) (share : ShareValue) (entered : Bool) → share.number ≡ next_number_at h n + bit entered → k < length h.shares → next_number_at (with_share h (Bank n) share) k ≡ next_number_at h k + bit (entered && eqb n k)
shared_number k n h share entered is below = elim (cases_eq k n) [
  | inl same ↦
      let at : n < length h.shares = subst (λ i. i < length h.shares) same below in
      let one = is_at entered k n same in
      let read : next_number_at (with_share h (Bank n) share) k ≡ share.number = ap (λ (s : ShareValue). s.number) (get_or-set_at h.shares n k share (first_share h.port) same at) in
      let old : next_number_at h k ≡ next_number_at h n = ap (next_number_at h) same in
      omega (arith, one, read, old, is)
  | inr apart ↦
      let none = not_at entered k n apart in
      let read : next_number_at (with_share h (Bank n) share) k ≡ next_number_at h k = ap (λ (s : ShareValue). s.number) (get_or-set_other h.shares n k share (first_share h.port) apart) in
      omega (arith, none, read)
]

both_true : (fit room entered : Bool) → fit ≡ true → entered ≡ (fit && room) → entered ≡ room
both_true true room entered f e = e
both_true false room entered f e = absurd cc

both_false : (fit room entered : Bool) → fit ≡ false → entered ≡ (fit && room) → entered ≡ false
both_false true room entered f e = absurd cc
both_false false room entered f e = e

no_entry : (k : ℕ) (entered : Bool) (place : Place) → entered ≡ false → bit (entered && is_bank_of k place) ≡ 0
no_entry k true place e = absurd cc
no_entry k false place e = refl

none_more : (entered : Bool) (n m : ℕ) → entered ≡ false → m ≡ n → m ≡ n + bit entered
none_more true n m none same = absurd cc
none_more false n m none same = omega (arith, same)

-- the port's share of the bank counts the entry
counted_share : (j : Judging) (h after : Standing) (is : IsBanked j h after) → is.ended.finished.share.number ≡ (share_of h.pass j.judged.place).number + bit j.entered
counted_share j h after is =
    let share = share_of h.pass j.judged.place in let before = is.ended.before in let end = is.ended.finished in
    let fit = takes before share j.judged in let room = has_room before.bank j.judged.port in
    elim (cases_Bool fit) [
      | inl true_fit ↦
          let left : j.entered ≡ room = both_true fit room j.entered true_fit is.entered in
          ap (λ (s : ShareValue). s.number) (end.applied true_fit).share_is ∙ next_number before.bank share j.judged ∙ ap (λ r. share.number + bit r) (sym left)
      | inr misfit ↦
          none_more j.entered share.number end.share.number (both_false fit room j.entered misfit is.entered)
          (ap (λ (s : ShareValue). s.number) (end.refused misfit).share_is)
    ]

banked_number : (k : ℕ) (j : Judging) (h after : Standing) → IsBanked j h after → k < length h.pass.shares → next_number_at after.pass k ≡ next_number_at h.pass k + one_at k j
banked_number k j h after is below =
    let share = is.ended.finished.share in
    let at : (share_of h.pass j.judged.place).number ≡ next_number_at h.pass is.number = ap (λ place. (share_of h.pass place).number) is.place in
    let there : share.number ≡ next_number_at h.pass is.number + bit j.entered = counted_share j h after is ∙ ap (λ m. m + bit j.entered) at in
    let counted = shared_number k is.number h.pass share j.entered there below in
    subst (λ x. next_number_at x k ≡ next_number_at h.pass k + one_at k j) (sym is.ended.finished.shares)
    (subst (λ place. next_number_at (with_share h.pass place share) k ≡ next_number_at h.pass k + bit (j.entered && is_bank_of k place)) (sym is.place) counted)

load_number : (k : ℕ) (line : Option Status) (h after : PassValue) (old new : List Publish) (j : JudgedValue) (result : Status) → EndsAs line h after old new j result → next_number_at after k ≡ next_number_at h k
load_number k (Some status) h after old new j result end = ap (λ x. next_number_at x k) end.1
load_number k None h after old new j result (inl loaded) = ap (λ x. next_number_at x k) loaded.holder_after
load_number k None h after old new j result (inr refused) = ap (λ x. next_number_at x k) refused.holder_after

window_number : (k : ℕ) (place : Place) (h after : PassValue) (old new : List Publish) (j : JudgedValue) (result : Status) (reply : List ℕ) → EndsAtWindow place h after old new j result reply → next_number_at after k ≡ next_number_at h k
window_number k (Bank n) h after old new j result reply end = absurd end
window_number k Staging h after old new j result reply end = ap (λ x. next_number_at x k) end.0.rest
window_number k LoadResult h after old new j result reply end = ap (λ x. next_number_at x k) end.0.rest
window_number k Control h after old new j result reply end = load_number k _ h after old new j result end.ended

end_number : (k : ℕ) (j : Judging) (h after : Standing) → IsBanked j h after ⊎ IsWindowEnd j h after → k < length h.pass.shares → next_number_at after.pass k ≡ next_number_at h.pass k + one_at k j
end_number k j h after (inl banked) below = banked_number k j h after banked below
end_number k j h after (inr is) below =
    let same = window_number k j.judged.place h.pass after.pass is.old is.new j.judged is.result j.reply is.ended in
    let none = no_entry k j.entered j.judged.place is.entered in
    omega (arith, same, none)

pub judged_number : (k : ℕ) (j : Judging) (p : Cargo) (h after : Standing) → IsJudgedInRun j p h after → k < length h.pass.shares → next_number_at after.pass k ≡ next_number_at h.pass k + one_at k j
judged_number k j p h after is below =
    let same : next_number_at is.between k ≡ next_number_at h.pass k = ap (λ x. next_number_at x k) is.judgement.asked in
    let count = (run_stays h.pass is.between p j.judged is.judgement).count in
    let end = end_number k j (stand is.between h.asked is.reached) after is.ended (omega (arith, count, below)) in
    omega (arith, same, end)

entries_more : (k : ℕ) (j : Judging) (js : List Judging) → length (filter (is_entry_at k) (j ∷ js)) ≡ one_at k j + length (filter (is_entry_at k) js)
entries_more k j js = elim (is_entry_at k j) as (λ t. length (cond t (j ∷ filter (is_entry_at k) js) (filter (is_entry_at k) js)) ≡ bit t + length (filter (is_entry_at k) js)) [
  | true ↦ omega arith
  | false ↦ omega arith
]

numbers_count : (k : ℕ) (h after : Standing) (ps : List Cargo) (ds : List Deed) → Worked h ps ds after → k < length h.pass.shares → next_number_at after.pass k ≡ next_number_at h.pass k + entry_count_at k ds
numbers_count k h after [] [] w below = let same = ap (λ (x : Standing). next_number_at x.pass k) w in omega (arith, same)
numbers_count k h after [] (d ∷ ds) w below = absurd w
numbers_count k h after (p ∷ ps) [] w below = absurd w
numbers_count k h after (p ∷ ps) (Dropped ∷ ds) w below =
    subst (λ (x : Standing). next_number_at after.pass k ≡ next_number_at x.pass k + entry_count_at k ds) w.1.same
    (numbers_count k w.0 after ps ds w.2 (subst (λ (x : Standing). k < length x.pass.shares) (sym w.1.same) below))
numbers_count k h after (p ∷ ps) (Answered reply ∷ ds) w below =
    subst (λ (x : Standing). next_number_at after.pass k ≡ next_number_at x.pass k + entry_count_at k ds) w.1.same
    (numbers_count k w.0 after ps ds w.2 (subst (λ (x : Standing). k < length x.pass.shares) (sym w.1.same) below))
numbers_count k h after (p ∷ ps) (Judged j ∷ ds) w below =
    let count = (dealt_stays (Judged j) p h w.0 w.1).count in
    let rest = numbers_count k w.0 after ps ds w.2 (omega (arith, count, below)) in
    let first = judged_number k j p h w.0 w.1 below in
    let more = entries_more k j (judgings ds) in
    omega (arith, rest, first, more)

pub shares_count : (h after : Standing) (ps : List Cargo) (ds : List Deed) → Worked h ps ds after → SharesCount h.pass after.pass ds
shares_count h after ps ds w = let stays = worked_stays h after ps ds w in record {
  numbers = λ k below. numbers_count k h after ps ds w below;
  count = stays.count;
  port = stays.port;
  windows = stays.windows;
  sizes = stays.sizes;
  home = stays.home;
}
