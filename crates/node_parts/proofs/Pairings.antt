-- Banks and ports that were made together stay paired.
use Rattle.std.proofs.Common.{◌≡◌, ◌≢◌, ℕ, ◌+◌, ◌<◌, List, [], ◌∷◌, Bool, true, false, eqb, ltb, ◌&&◌, length, get_or, set, Option, None, Some, refl, sym, ap, ◌∙◌, arith, inl, inr, subst}
use Rattle.std.specs.Prelude.{map, replicate, slice_get, if◌then◌else◌, option_map}
use Rattle.std.proofs.lemmas.Option.{slice_get-map, slice_get_within, get_or_from_slice_get}
use Rattle.std.proofs.lemmas.List.{length-set, length-map, length-replicate, get_or-replicate, get_or-set_other}
use Rattle.std.proofs.lemmas.Grind.{get_or-set_at}
use Rattle.std.proofs.lemmas.List.FromFn.{length-map-range_with_len, get_or-map-range_with_len}
use Rattle.std.specs.List.{range_with_len}
use Rattle.std.proofs.Math.Seq.{map-set_same}
use Rattle.std.proofs.lemmas.Bool.{cases_eq, and_parts}
use Rattle.std.proofs.lemmas.Bool.Decides.{nat_tests}
use Rattle.rmap.specs.declared.places.Place.{Place}
use Rattle.rmap.specs.declared.places.Place.TheVariants.{Bank}
use Rattle.rmap.specs.Command.{command_of}
use Rattle.rmap.specs.Windows.{lies_inside}
use Rattle.bver.specs.Justified.{AcceptedValue}
use Rattle.bank.specs.Admission.{IsPlacedBy}
use Rattle.bank.specs.Laws.{ExtentsStay}
use Rattle.bank.specs.Records.{BankValue, ShareValue, JudgedValue, extent_of, after_command, after_record, answer_of, has_room, next_share, first_share, is_bank_place, is_next, fits}
use Rattle.node_parts.specs.declared.config.BankConfig.{BankConfig}
use base.Stored.{Gv}
use Rattle.machine.specs.declared.calls.Call.{Call}
use Rattle.spw.specs.Cargo.{Cargo}
use Rattle.node_programs.specs.declared.publishes.Publish.{Publish}
use Rattle.node_programs.specs.Staged.{Staged}
use Rattle.node_parts.specs.Passes.{PassValue, pass_after, with_staging}
use Rattle.node_parts.specs.Loaded.{after_load}
use Rattle.node_parts.specs.Nodes.{bank_of, first_pass, range_of}
use Rattle.node_parts.specs.Steps.{IsBankBelow, IsJudgement}
use Rattle.node_parts.specs.Applied.{share_of, with_share}
use Rattle.node_parts.specs.Keeping.{AppliedSharesAgree}
use Rattle.node_parts.specs.Pairs.{IsShareOf, IsPaired, MadeArePaired, PairedCommandsFit, OwnStaysPaired, OthersStayPaired}
use Rattle.lemmas.proofs.Places.{at_written, at_other}
use Rattle.lemmas.proofs.Options.{some_same}

-- a share whose number is the bank's count of its port
next_at : (counts : List ℕ) (port number : ℕ) → port < length counts → number ≡ get_or counts port 0 → (ltb port (length counts) && eqb number (get_or counts port 0)) ≡ true
next_at counts port number below same =
    let is_below : ltb port (length counts) ≡ true = grind (arith, nat_tests) in
    let is_same : eqb number (get_or counts port 0) ≡ true = grind (arith, nat_tests) in
    rw (is_below, is_same) refl

next_below : (counts : List ℕ) (port number : ℕ) → (ltb port (length counts) && eqb number (get_or counts port 0)) ≡ true → port < length counts
next_below counts port number h =
    let test = (and_parts (ltb port (length counts)) (eqb number (get_or counts port 0)) h).0 in
    let is_below : ltb port (length counts) ≡ true = test in
    grind (arith, nat_tests)

next_count : (counts : List ℕ) (port number : ℕ) → (ltb port (length counts) && eqb number (get_or counts port 0)) ≡ true → number ≡ get_or counts port 0
next_count counts port number h =
    let test = (and_parts (ltb port (length counts)) (eqb number (get_or counts port 0)) h).1 in
    let is_same : eqb number (get_or counts port 0) ≡ true = test in
    grind (arith, nat_tests)

-- the share that applied a command is the next one again
own_share : (b : BankValue) (share : ShareValue) (j : JudgedValue) (port : ℕ) → IsShareOf b port share → j.port ≡ port → IsShareOf (after_command b share j) port (next_share b share j)
own_share b share j port h same =
    elim (has_room b j.port) as (λ room. IsShareOf (if room then after_record b share j (answer_of b j) else b) port (if room then record { port = share.port; number = share.number + 1 } else share)) [
      | true ↦
          let below : share.port < length b.counts = next_below b.counts share.port share.number h.1 in
          let at : share.port ≡ j.port = h.0 ∙ sym same in
          let inside : j.port < length b.counts = rw (← at) below in
          let long : share.port < length (set b.counts j.port (share.number + 1)) = rw (length-set b.counts j.port (share.number + 1)) below in
          let count : share.number + 1 ≡ get_or (set b.counts j.port (share.number + 1)) share.port 0 = sym (get_or-set_at b.counts j.port share.port (share.number + 1) 0 at inside) in
          (h.0, next_at (set b.counts j.port (share.number + 1)) share.port (share.number + 1) long count)
      | false ↦ h
    ]

first_two : (a b c d : Bool) → (a && b && c && d) ≡ true → (a ≡ true) × (b ≡ true)
first_two true true c d e = (refl, refl)
first_two true false c d e = absurd cc
first_two false b c d e = absurd cc

same_port : (a b : ℕ) → eqb a b ≡ true → a ≡ b
same_port a b e = grind (arith, nat_tests)

-- a share that was written is the one that is read
share_written : (h : PassValue) (place : Place) (share : ShareValue) → IsBankBelow place (length h.shares) → share_of (with_share h place share) place ≡ share
share_written h place share below =
    rw (below.1) (get_or-set_at h.shares below.0 below.0 share (first_share h.port) refl below.2)

-- if a command was applied, share and count agree
pub agrees : AppliedSharesAgree
agrees old new h after j result bytes below finished fit =
    let share = share_of h j.place in
    let end = finished.applied fit in
    let tests = first_two (eqb share.port j.port) (is_next old share) (is_bank_place j.place) (lies_inside old.first (length old.bytes) (command_of j.packet)) fit in
    let own = own_share old share j share.port (refl, tests.1) (sym (same_port share.port j.port tests.0)) in
    let next : is_next (after_command old share j) (next_share old share j) ≡ true = own.1 in
    let written : share_of (with_share h j.place (next_share old share j)) j.place ≡ next_share old share j = share_written h j.place (next_share old share j) below in
    let bank : is_next new (next_share old share j) ≡ true = subst (λ b. is_next b (next_share old share j) ≡ true) (sym end.bank) next in
    let read : is_next new (share_of (with_share h j.place (next_share old share j)) j.place) ≡ true = subst (λ s. is_next new s ≡ true) (sym written) bank in
    subst (λ x. is_next new (share_of x j.place) ≡ true) (sym end.shares) read

-- a share of another port is the next one still
other_share : (b : BankValue) (share : ShareValue) (j : JudgedValue) (port : ℕ) (other : ShareValue) → IsShareOf b port other → port ≢ j.port → IsShareOf (after_command b share j) port other
other_share b share j port other h apart =
    elim (has_room b j.port) as (λ room. IsShareOf (if room then after_record b share j (answer_of b j) else b) port other) [
      | true ↦
          let below : other.port < length b.counts = next_below b.counts other.port other.number h.1 in
          let far : other.port ≢ j.port = λ e. apart (sym (h.0) ∙ e) in
          let long : other.port < length (set b.counts j.port (share.number + 1)) = rw (length-set b.counts j.port (share.number + 1)) below in
          let count : other.number ≡ get_or (set b.counts j.port (share.number + 1)) other.port 0 = next_count b.counts other.port other.number h.1 ∙ sym (get_or-set_other b.counts j.port other.port (share.number + 1) 0 far) in
          (h.0, next_at (set b.counts j.port (share.number + 1)) other.port other.number long count)
      | false ↦ h
    ]

windows_stay : (banks : List BankValue) (k : ℕ) (b new : BankValue) → slice_get banks k ≡ Some b → extent_of new ≡ extent_of b → map extent_of (set banks k new) ≡ map extent_of banks
windows_stay banks k b new at same =
    map-set_same extent_of banks k new b (same ∙ ap extent_of (sym (get_or_from_slice_get banks k b b at)))

-- one bank was left with its extent, and the port's share of it is the next one
pub pair_set : (banks : List BankValue) (k : ℕ) (b new : BankValue) (h : PassValue) → slice_get banks k ≡ Some b → extent_of new ≡ extent_of b → IsPaired banks h → IsShareOf new h.port (share_of h (Bank k)) → IsPaired (set banks k new) h
pair_set banks k b new h at same paired share = record {
  count = paired.count ∙ sym (length-set banks k new);
  windows = paired.windows ∙ sym (windows_stay banks k b new at same);
  shares = λ i x found. elim (cases_eq i k) [
    | inl here ↦
        let is : x ≡ new = at_written banks k i b new x at here found in
        rw (is, here) share
    | inr other ↦ paired.shares i x (at_other banks k i new x other found)
  ];
}

own_set : (banks : List BankValue) (k : ℕ) (b new : BankValue) (h : PassValue) (share : ShareValue) → slice_get banks k ≡ Some b → extent_of new ≡ extent_of b → IsPaired banks h → IsShareOf new h.port share → IsPaired (set banks k new) (with_share h (Bank k) share)
own_set banks k b new h share at same paired next =
    let within : k < length banks = slice_get_within banks k b at in
    let below : k < length h.shares = rw (paired.count) within in
    record {
      count = length-set h.shares k share ∙ paired.count ∙ sym (length-set banks k new);
      windows = paired.windows ∙ sym (windows_stay banks k b new at same);
      shares = λ i x found. elim (cases_eq i k) [
        | inl here ↦
            let is : x ≡ new = at_written banks k i b new x at here found in
            let now : get_or (set h.shares k share) i (first_share h.port) ≡ share = get_or-set_at h.shares k i share (first_share h.port) here below in
            rw (is, now) next
        | inr other ↦
            let now : get_or (set h.shares k share) i (first_share h.port) ≡ get_or h.shares i (first_share h.port) = get_or-set_other h.shares k i share (first_share h.port) other in
            rw now (paired.shares i x (at_other banks k i new x other found))
      ];
    }

pub own_stays_paired : ExtentsStay → OwnStaysPaired
own_stays_paired keeps banks h k j b paired port place at =
    rw place (own_set banks k b (after_command b (share_of h (Bank k)) j) h (next_share b (share_of h (Bank k)) j) at (keeps b (share_of h (Bank k)) j) paired (own_share b (share_of h (Bank k)) j h.port (paired.shares k b at) port))

pub others_stay_paired : ExtentsStay → OthersStayPaired
others_stay_paired keeps banks h k share j b paired apart at =
    pair_set banks k b (after_command b share j) h at (keeps b share j) paired (other_share b share j h.port (share_of h (Bank k)) (paired.shares k b at) apart)

extent_at : (banks : List BankValue) (k : ℕ) (b : BankValue) (range : ℕ × ℕ) → slice_get banks k ≡ Some b → slice_get (map extent_of banks) k ≡ Some range → range ≡ extent_of b
extent_at banks k b range at window =
    some_same range (extent_of b) (sym window ∙ slice_get-map extent_of banks k ∙ ap (option_map extent_of) at)

pub paired_commands_fit : PairedCommandsFit
paired_commands_fit banks h k j b paired port placed place at =
    let share = paired.shares k b at in
    let c = command_of j.packet in
    let found = placed.inside k place in
    let window : slice_get (map extent_of banks) k ≡ Some found.range = subst (λ l. slice_get l k ≡ Some found.range) paired.windows found.window in
    let same : found.range ≡ extent_of b = extent_at banks k b found.range at window in
    let inside : lies_inside b.first (length b.bytes) c ≡ true = subst (λ (r : ℕ × ℕ). lies_inside r.0 r.1 c ≡ true) same found.inside in
    let ports : (share_of h (Bank k)).port ≡ j.port = share.0 ∙ sym port in
    let test : eqb (share_of h (Bank k)).port j.port ≡ true = same_ports _ _ ports in
    rw (place, test, share.1, inside) refl
  where
    same_ports : (a b : ℕ) → a ≡ b → eqb a b ≡ true
    same_ports a b e = grind (arith, nat_tests)

-- what was seen and asked says nothing of banks and shares
pub asked_paired : (banks : List BankValue) (h : PassValue) (seen : List Publish) (calls : List Call) → IsPaired banks h → IsPaired banks (pass_after h seen calls)
asked_paired banks h seen calls paired = record { count = paired.count; windows = paired.windows; shares = paired.shares }

-- a run leaves a port paired
pub judged_paired : (banks : List BankValue) (h between : PassValue) (p : Cargo) (j : JudgedValue) → IsJudgement h between p j → IsPaired banks h → IsPaired banks between
judged_paired banks h between p j run paired =
    subst (λ (x : PassValue). IsPaired banks x) (sym run.asked) (asked_paired banks h run.seen run.calls paired)

-- and the command that was judged fits
pub judged_fits : (banks : List BankValue) (h between : PassValue) (p : Cargo) (j : JudgedValue) (k : ℕ) (b : BankValue) → IsJudgement h between p j → IsPaired banks h → j.place ≡ Bank k → slice_get banks k ≡ Some b → fits b (share_of between j.place) j ≡ true
judged_fits banks h between p j k b run paired place at =
    let asked = pass_after h run.seen run.calls in
    let judged = run.judged_for in
    let placed : IsPlacedBy h.windows j.packet j.place = subst (λ (packet : Cargo). IsPlacedBy h.windows packet j.place) (sym judged.packet) judged.placed in
    subst (λ (x : PassValue). fits b (share_of x j.place) j ≡ true) (sym run.asked)
    (paired_commands_fit banks asked k j b (asked_paired banks h run.seen run.calls paired) judged.port_of placed place at)

-- another staging leaves a port paired
pub staged_paired : (banks : List BankValue) (h : PassValue) (staging : Staged) → IsPaired banks h → IsPaired banks (with_staging h staging)
staged_paired banks h staging paired = record { count = paired.count; windows = paired.windows; shares = paired.shares }

pub loaded_paired : (banks : List BankValue) (h : PassValue) (seen : List Publish) (load_result : List ℕ) → IsPaired banks h → IsPaired banks (after_load h seen load_result)
loaded_paired banks h seen load_result paired = record { count = paired.count; windows = paired.windows; shares = paired.shares }

-- as banks and ports are made
windows_made : (ports : ℕ) (banks : List BankConfig) → map range_of banks ≡ map extent_of (map (bank_of ports) banks)
windows_made ports [] = refl
windows_made ports (bank ∷ banks) =
    rw (length-replicate {A = ℕ} bank.size 0) (ap (λ (l : List (ℕ × ℕ)). (bank.base, bank.size) ∷ l) (windows_made ports banks))

fresh_share : (ports port : ℕ) (bank : BankConfig) → port < ports → IsShareOf (bank_of ports bank) port (first_share port)
fresh_share ports port bank below =
    let long : port < length (replicate ports 0) = rw (length-replicate {A = ℕ} ports 0) below in
    (refl, next_at (replicate ports 0) port 0 long (sym (get_or-replicate ports port 0 0 below)))

share_made : (ports port k : ℕ) (banks : List BankConfig) (b : BankValue) (found : Option BankConfig) → port < ports → slice_get banks k ≡ found → Some b ≡ option_map (bank_of ports) found → IsShareOf b port (get_or (replicate (length banks) (first_share port)) k (first_share port))
share_made ports port k banks b None below at e = absurd cc
share_made ports port k banks b (Some bank) below at e =
    let is : b ≡ bank_of ports bank = some_same b (bank_of ports bank) e in
    let within : k < length banks = slice_get_within banks k bank at in
    let share : get_or (replicate (length banks) (first_share port)) k (first_share port) ≡ first_share port = get_or-replicate (length banks) k (first_share port) (first_share port) within in
    rw (is, share) (fresh_share ports port bank below)

one_paired : (address ports : ℕ) (banks : List BankConfig) (program : AcceptedValue) (home : Gv) (port : ℕ) → port < ports → IsPaired (map (bank_of ports) banks) (first_pass address banks program home port)
one_paired address ports banks program home port below = record {
  count = length-replicate (length banks) (first_share port) ∙ sym (length-map banks (bank_of ports));
  windows = windows_made ports banks;
  shares = λ k b found. share_made ports port k banks b (slice_get banks k) below refl (sym found ∙ slice_get-map (bank_of ports) banks k);
}

-- the pass at a place is that of the port of that number
record IsMade (f : ℕ → PassValue) (ports k : ℕ) (h : PassValue) : Type 0 where
  pub pass : h ≡ f k
  pub below : k < ports

made_at : (f : ℕ → PassValue) (ports k : ℕ) (h : PassValue) → slice_get (map f (range_with_len 0 ports)) k ≡ Some h → IsMade f ports k h
made_at f ports k h found =
    let passes = map f (range_with_len 0 ports) in
    let below : k < ports = rw (← length-map-range_with_len f 0 ports) (slice_get_within passes k h found) in
    record { pass = sym (get_or_from_slice_get passes k h h found) ∙ get_or-map-range_with_len f 0 ports k k h below (omega arith); below = below }

pub made_are_paired : MadeArePaired
made_are_paired address ports banks program home =
    let f = first_pass address banks program home in
    record {
      each = λ k h found.
          let made = made_at f ports k h found in
          rw (made.pass) (one_paired address ports banks program home k made.below);
      ports = λ k h found.
          let made = made_at f ports k h found in
          rw (made.pass) refl;
    }
